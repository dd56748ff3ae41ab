-- Lists of the names that declarations declare, and of the texts among others that some don't have.
use Rattle.std.proofs.Common.{◌≡◌, ◌⊎◌, ℕ, Bool, true, false, Option, Some, None, List, [], ◌∷◌, ◌++◌, refl, sym, ◌∙◌, subst, inl, inr}
use mathlib.Core.Bool.{true≢false}
use Rattle.std.specs.List.{list_any}
use Rattle.std.specs.BTreeMap.{is_at}
use Rattle.go_base.specs.Lists.{Has}
use Rattle.go_base.specs.Growing.{Grows}
use Rattle.go_references.specs.go_syntax.declared.declaration.ConstSpec.{ConstSpec}
use Rattle.go_references.specs.go_syntax.declared.declaration.Decl.{Decl}
use Rattle.go_references.specs.go_syntax.declared.declaration.Decl.TheVariants as decl
use Rattle.go_references.specs.go_syntax.declared.declaration.TypeSpec.{TypeSpec}
use Rattle.go_references.specs.go_syntax.declared.declaration.VarSpec.{VarSpec}
use Rattle.go_references.specs.go_syntax.declared.name.Name.{Name}
use Rattle.go_references.specs.go_syntax.declared.types.ParameterDecl.{ParameterDecl}
use Rattle.go_imports.specs.UsedImports.{IsNameIn, IsFuncName, IsDeclaredBy, IsDeclaredIn}
use Rattle.go_imports.proofs.GrowingSets.{order, OfSome, grows_none}
use Rattle.go_imports.proofs.Members.{has_left}
use Rattle.go_imports.proofs.TextKeys.{key_has, has_key}

-- a list has all that has the property, and nothing else
abbrev pub Listed : {K : Type 0} → (K → Type 0) → Type 0
Listed {K} P = (ks : List K) × Grows P [] ks

new_only : {K : Type 0} (P : K → Type 0) (x : K) → Has [] x ⊎ P x → P x
new_only P x (inl o) = absurd o
new_only P x (inr p) = p

module _ {K : Type 0} where
  has_right : (xs ys : List K) (y : K) → Has ys y → Has (xs ++ ys) y
  has_right [] ys y h = h
  has_right (x ∷ xs) ys y h = inr (has_right xs ys y h)

  has_apart : (xs ys : List K) (y : K) → Has (xs ++ ys) y → Has xs y ⊎ Has ys y
  has_apart [] ys y h = inr h
  has_apart (x ∷ xs) ys y (inl e) = inl (inl e)
  has_apart (x ∷ xs) ys y (inr h) = elim (has_apart xs ys y h) [ inl k ↦ inl (inr k) | inr k ↦ inr k ]

  listed_one : (k : K) → Listed (λ x. k ≡ x)
  listed_one k = (k ∷ [], record { sound = λ x h. elim h [ inl e ↦ inr e | inr o ↦ absurd o ]; kept = λ x o. absurd o; complete = λ x e. inl e })

  listed_none : (P : K → Type 0) → ((x : K) → P x → ⊥) → Listed P
  listed_none P none = ([], record { sound = λ x o. absurd o; kept = λ x o. absurd o; complete = λ x p. absurd (none x p) })

-- what belongs to the first of some items, and what to the others
module _ {A K : Type 0} (P : A → K → Type 0) (a : A) (items : List A) (mine : List K) (g : Grows (P a) [] mine) (others : List K) (f : Grows (OfSome P items) [] others) where
  sound_more : (x : K) → Has mine x ⊎ Has others x → OfSome P (a ∷ items) x
  sound_more x (inl k) = (a, inl refl, new_only (P a) x (g.sound x k))
  sound_more x (inr k) = let p = new_only (OfSome P items) x (f.sound x k) in (p.0, inr p.1, p.2)

  complete_more : (x : K) (b : A) → (a ≡ b) ⊎ Has items b → P b x → Has (mine ++ others) x
  complete_more x b (inl e) p = has_left mine others x (g.complete x (subst (λ (w : A). P w x) (sym e) p))
  complete_more x b (inr m) p = has_right mine others x (f.complete x (b, m, p))

  listed_more : Listed (OfSome P (a ∷ items))
  listed_more = (mine ++ others, record { sound = λ x h. inr (sound_more x (has_apart mine others x h)); kept = λ x o. absurd o; complete = λ x p. complete_more x p.0 p.1 p.2 })

pub listed_over : {A K : Type 0} (P : A → K → Type 0) → ((a : A) → Listed (P a)) → (items : List A) → Listed (OfSome P items)
listed_over P each [] = ([], grows_none P [])
listed_over P each (a ∷ items) = let h = each a in let r = listed_over P each items in listed_more P a items h.0 h.1 r.0 r.1

names_listed : (names : List Name) → Listed (IsNameIn names)
names_listed names = listed_over (λ (n : Name) (x : List ℕ). n.text ≡ x) (λ n. listed_one n.text) names

func_listed : (o : Option ParameterDecl) (name : List ℕ) → Listed (IsFuncName o name)
func_listed None name = listed_one name
func_listed (Some r) name = listed_none (IsFuncName (Some r) name) (λ x e. e)

declared_listed : (d : Decl) → Listed (IsDeclaredBy d)
declared_listed (decl.ConstGroup specs) = listed_over (λ (s : ConstSpec). IsNameIn s.names) (λ s. names_listed s.names) specs
declared_listed (decl.VarGroup specs) = listed_over (λ (s : VarSpec). IsNameIn s.names) (λ s. names_listed s.names) specs
declared_listed (decl.TypeGroup specs) = listed_over (λ (s : TypeSpec) (x : List ℕ). s.name.text ≡ x) (λ s. listed_one s.name.text) specs
declared_listed (decl.FuncDecl f) = func_listed f.receiver f.name.text

-- the names that declarations declare
pub names_declared : (decls : List Decl) → Listed (IsDeclaredIn decls)
names_declared decls = listed_over IsDeclaredBy declared_listed decls

has_by : (ks : List (List ℕ)) (text : List ℕ) (b : Bool) → list_any (is_at (order text)) ks ≡ b → Has ks text ⊎ (Has ks text → ⊥)
has_by ks text true e = inl (key_has ks text e)
has_by ks text false e = inr (λ h. true≢false (sym (has_key ks text h) ∙ e))

abbrev Without : List (List ℕ) → List (List ℕ) → List ℕ → Type 0
Without ks texts x = Has texts x × (Has ks x → ⊥)

without_more : (ks : List (List ℕ)) (t : List ℕ) (texts : List (List ℕ)) → Has ks t ⊎ (Has ks t → ⊥) → Listed (Without ks texts) → Listed (Without ks (t ∷ texts))
without_more ks t texts (inl there) l = (
  l.0,
  record {
    sound = λ x h. let p = new_only (Without ks texts) x (l.1.sound x h) in inr (inr p.0, p.1);
    kept = λ x o. absurd o;
    complete = λ x p. elim p.0 [ inl e ↦ absurd (p.1 (subst (Has ks) e there)) | inr m ↦ l.1.complete x (m, p.1) ];
  },
)
without_more ks t texts (inr never) l = (
  t ∷ l.0,
  record {
    sound = λ x h. inr (elim h [ inl e ↦ (inl e, λ k. never (subst (Has ks) (sym e) k)) | inr m ↦ (let p = new_only (Without ks texts) x (l.1.sound x m) in (inr p.0, p.1)) ]);
    kept = λ x o. absurd o;
    complete = λ x p. elim p.0 [ inl e ↦ inl e | inr m ↦ inr (l.1.complete x (m, p.1)) ];
  },
)

-- the texts that aren't among others
pub texts_without : (ks texts : List (List ℕ)) → Listed (λ x. Has texts x × (Has ks x → ⊥))
texts_without ks [] = listed_none (Without ks []) (λ x p. p.0)
texts_without ks (t ∷ texts) = without_more ks t texts (has_by ks t (list_any (is_at (order t)) ks) refl) (texts_without ks texts)
