-- The used imports of a file, and those that remain where a package declares names.
use Rattle.std.proofs.Common.{◌≡◌, ℕ, ◌+◌, ◌<◌, Bool, true, false, not, cond, Option, Some, None, List, [], ◌∷◌, ◌++◌, length, take, get_or, refl, sym, ap, ◌∙◌, subst, inl, inr, append-nil}
use mathlib.Core.Bool.{true≢false}
use Rattle.std.specs.Prelude.{filter}
use Rattle.std.specs.List.{list_any}
use Rattle.std.specs.BTreeMap.{is_at}
use Rattle.std.proofs.lemmas.List.{take_more}
use Rattle.go_base.specs.Lists.{Has}
use Rattle.go_imports.specs.Gives.{optional}
use Rattle.go_imports.specs.UndeclaredUses.{is_undeclared, undeclared}
use Rattle.go_imports.specs.UsedImports.{IsNamed, IsUse, AreUsed, none, used, unused, named_as}
use Rattle.go_imports.specs.declared.used_imports.Import.{Import}
use Rattle.go_imports.specs.declared.used_imports.NamedImport.{NamedImport}
use Rattle.go_imports.proofs.GrowingSets.{order}
use Rattle.go_imports.proofs.Members.{has_left, has_last}
use Rattle.go_imports.proofs.TextKeys.{key_has, has_key}

filter_by : {A : Type 0} (p : A → Bool) (b : Bool) (y : A) (ys : List A) (x : A) → filter p (ys ++ x ∷ []) ≡ filter p ys ++ filter p (x ∷ [])
    → cond b (y ∷ filter p (ys ++ x ∷ [])) (filter p (ys ++ x ∷ [])) ≡ cond b (y ∷ filter p ys) (filter p ys) ++ filter p (x ∷ [])
filter_by p true y ys x e = ap (λ l. y ∷ l) e
filter_by p false y ys x e = e

pub filter_push : {A : Type 0} (p : A → Bool) (xs : List A) (x : A) → filter p (xs ++ x ∷ []) ≡ filter p xs ++ filter p (x ∷ [])
filter_push p [] x = refl
filter_push p (y ∷ ys) x = filter_by p (p y) y ys x (filter_push p ys x)

-- one import more
pub undeclared_next : (names : List (List ℕ)) (uses : List NamedImport) (i : ℕ) (u : NamedImport) (r : Option NamedImport) (kept kept2 : List NamedImport) → i < length uses → u ≡ get_or uses i u
    → kept ≡ undeclared names (take i uses) → undeclared names (u ∷ []) ≡ optional r → kept2 ≡ kept ++ optional r → kept2 ≡ undeclared names (take (i + 1) uses)
undeclared_next names uses i u r kept kept2 h is e one more =
    more ∙ ap (λ (l : List NamedImport). l ++ optional r) e ∙ ap (λ (l : List NamedImport). undeclared names (take i uses) ++ l) (sym one) ∙ sym (filter_push (is_undeclared names) (take i uses) u)
    ∙ ap (undeclared names) (sym (take_more uses i u h ∙ ap (λ (v : NamedImport). take i uses ++ v ∷ []) (sym is)))

-- nothing is left out where there are no names
pub undeclared_none : (uses : List NamedImport) → undeclared [] uses ≡ uses
undeclared_none [] = refl
undeclared_none (u ∷ uses) = ap (λ (l : List NamedImport). u ∷ l) (undeclared_none uses)

some_same : (a b : List ℕ) → ◌≡◌ {A = Option (List ℕ)} (Some a) (Some b) → a ≡ b
some_same a b e = cc

none_some : (a : List ℕ) → ◌≡◌ {A = Option (List ℕ)} None (Some a) → ⊥
none_some a e = cc

-- an import has one name at the most
named_once : (imports before : List Import) (i : Import) (a b : List ℕ) → IsNamed imports before i a → IsNamed imports before i b → a ≡ b
named_once imports before i a b (inl s) (inl t) = some_same a b (sym s ∙ t)
named_once imports before i a b (inl s) (inr p) = absurd (none_some a (sym p.0.0 ∙ s))
named_once imports before i a b (inr p) (inl t) = absurd (none_some b (sym p.0.0 ∙ t))
named_once imports before i a b (inr p) (inr q) = sym p.0.1 ∙ q.0.1

not_true : (b : Bool) → not b ≡ false → b ≡ true
not_true true e = refl
not_true false e = absurd (true≢false e)

-- the qualifiers are those that the package doesn't declare, and of the declared names these are known that name used imports
module _ (imports : List Import) (qualifiers fewer declared names : List (List ℕ)) (fresh : (t : List ℕ) → Has fewer t → Has qualifiers t × (Has declared t → ⊥)) (others : (t : List ℕ) → Has qualifiers t → (Has declared t → ⊥) → Has fewer t) (known : (t : List ℕ) → Has names t → Has declared t) where
  abbrev Agree : List NamedImport → Type 0
  Agree uses = (u : NamedImport) → Has uses u → Has declared u.name → Has names u.name

  used_by : (before : List Import) (uses : List NamedImport) (i : Import) (text : List ℕ) (b : Bool) → is_undeclared names (named_as text i) ≡ b → (Has declared text → Has names text) → IsUse imports qualifiers before i text
      → AreUsed imports fewer before (undeclared names uses) → AreUsed imports fewer (before ++ i ∷ []) (undeclared names uses ++ cond b (named_as text i ∷ []) [])
  used_by before uses i text true e agree by rest = used i text rest (others text by.0 (λ d. true≢false (sym e ∙ ap not (has_key names text (agree d)))), by.1)
  used_by before uses i text false e agree by rest = subst (AreUsed imports fewer (before ++ i ∷ [])) (sym (append-nil (undeclared names uses))) (unused i rest (λ t k.
      (fresh t k.0).1 (subst (Has declared) (named_once imports before i text t by.1 k.1) (known text (key_has names text (not_true (list_any (is_at (order text)) names) e))))))

  pub undeclared_used : {before : List Import} {uses : List NamedImport} → AreUsed imports qualifiers before uses → Agree uses → AreUsed imports fewer before (undeclared names uses)
  undeclared_used none agree = none
  undeclared_used (used {before = before} {uses = uses} i text told by) agree =
      subst (AreUsed imports fewer (before ++ i ∷ [])) (sym (filter_push (is_undeclared names) uses (named_as text i)))
      (used_by before uses i text (is_undeclared names (named_as text i)) refl (agree (named_as text i) (has_last uses (named_as text i))) by (undeclared_used told (λ u h. agree u (has_left uses (named_as text i ∷ []) u h))))
  undeclared_used (unused i told never) agree = unused i (undeclared_used told agree) (λ t k. never t ((fresh t k.0).0, k.1))
