-- Which declarations of a package are of constants of an inexact type, as it is told.
use Rattle.std.proofs.Common.{◌≡◌, ◌<◌, ◌+◌, ◌↔◌, ℕ, zero, suc, Bool, true, false, List, [], ◌∷◌, ◌++◌, length, get_or, refl, sym, ap, ◌∙◌, subst, inl, inr, arith}
use Rattle.std.specs.Prelude.{Some, None, slice_get}
use Rattle.go_base.specs.Lists.{Each}
use Rattle.go_declarations.specs.Forms.{form_of}
use Rattle.go_declarations.specs.Listings.{declaration_of, declarations_of}
use Rattle.go_declarations.specs.declared.form.Constants.{Constants}
use Rattle.go_declarations.specs.declared.form.Form.{Form as BorrowedForm}
use Rattle.go_declarations.specs.declared.form.Form.TheVariants as borrowed
use Rattle.go_declarations.specs.declared.listing.Declaration.{Declaration as Borrowed}
use Rattle.go_exposed.specs.BeyondProfile.{GivesInexact, HoldsInexact, IsInexact, IsValue, IsValueOf}
use Rattle.go_exposed.specs.Causes.{IsToldInexact}
use Rattle.go_exposed.proofs.InexactMoves.{type_grows, value_grows}
use Rattle.go_graphs.specs.Flags.{AreFlagsOf, is_flagged}
use Rattle.go_graphs.specs.Walks.{row_of}
use Rattle.go_graphs.proofs.Pushed.{flags_next}
use Rattle.go_inexact.specs.Values.{IsInexactForm, OneIsInexact}
use Rattle.go_inexact.specs.inner.NoneLost.{IsInexactThere, NoneIsLost}
use Rattle.go_model.specs.declared.types.term.Term.{Term}
use Rattle.go_package_scopes.specs.KeptScopes.{IsMoved}
use Rattle.go_package_scopes.specs.PackageScopes.{at_declaration}
use Rattle.go_rules.specs.Environments.{Env}
use Rattle.go_rules.specs.Expressions.{OfType}
use Rattle.go_rules.specs.Growth.{Grows}
use Rattle.go_rules.specs.Scopes.{Scopes, env_of}
use Rattle.go_rules.proofs.OneOperand.{type_once}
use Rattle.go_selectors.specs.Answers.{Decides}
use Rattle.go_sifting.specs.Graphs.{AreRows}
use Rattle.go_soundness.specs.LostDeclarations.{Depends}
use Rattle.go_syntax.specs.declared.declaration.ConstSpec.{ConstSpec}
use Rattle.go_syntax.specs.declared.types.«Type».{«Type» as Typ}
use Rattle.go_typings.specs.Declarations.{Declaration, Form, constants, declarations}
use Rattle.go_typings.specs.PackageEnvironments.{Entries, environment}
use Rattle.go_typings.specs.Sources.{PackageSource, Setting}
use Rattle.go_typings.proofs.Cells.{none_some, some_once}

-- ---- constants of a spec

module _ (E : Env) (s : ConstSpec) where
  pub gives_not_counted : (length s.names ≡ length s.values → ⊥) → GivesInexact E s → ⊥
  gives_not_counted none k = none k.counted

  module _ (form : Typ) (given : s.type_ ≡ Some form) where
    same_form : (k : GivesInexact E s) → k.form ≡ form
    same_form k = some_once k.form form (sym k.given ∙ given)

    of_form : (k : GivesInexact E s) → OfType E form k.type
    of_form k = subst (λ (z : Typ). OfType E z k.type) (same_form k) k.is

    pub gives_untyped : ((t : Term) → OfType E form t → ⊥) → GivesInexact E s → ⊥
    gives_untyped none k = none k.type (of_form k)

    module _ (t : Term) (is : OfType E form t) where
      pub gives_exact : (IsInexact E t → ⊥) → GivesInexact E s → ⊥
      gives_exact none k = none (subst (IsInexact E) (type_once E (of_form k) is) k.inexact)

      pub gives_decides : (b : Bool) → IsInexact E t → length s.names ≡ length s.values → Decides b (Each (IsValueOf E t) s.values) → Decides b (GivesInexact E s)
      gives_decides true i n d = record { form = form; given = given; type = t; is = is; inexact = i; counted = n; values = d }
      gives_decides false i n d = λ k. d (subst (λ (z : Term). Each (IsValueOf E z) s.values) (type_once E (of_form k) is) k.values)

  pub holds_not_counted : (length s.names ≡ length s.values → ⊥) → HoldsInexact E s → ⊥
  holds_not_counted none k = none k.counted

  pub holds_no_values : (Each (IsValue E) s.values → ⊥) → HoldsInexact E s → ⊥
  holds_no_values none k = none k.values

  pub holds_decides : (b : Bool) → s.type_ ≡ None → length s.names ≡ length s.values → Each (IsValue E) s.values → Decides b (OneIsInexact E s.values) → Decides b (HoldsInexact E s)
  holds_decides true own n v d = record { own = own; counted = n; values = v; value = d.expr; among = d.among; type = d.value.type; has = d.value.has; inexact = d.value.inexact }
  holds_decides false own n v d = λ k. d (record { expr = k.value; among = k.among; value = record { type = k.type; has = k.has; inexact = k.inexact } })

  -- a spec with a type can't hold one, and one without can't give one
  pub form_given : (place : ℕ) (form : Typ) → s.type_ ≡ Some form → (b : Bool) → Decides b (GivesInexact E s) → Decides b (IsInexactForm E (constants s place))
  form_given place form q true d = inl d
  form_given place form q false d = λ k. elim k [ inl g ↦ d g | inr h ↦ none_some s.type_ form h.own q ]

  pub form_held : (place : ℕ) → s.type_ ≡ None → (b : Bool) → Decides b (HoldsInexact E s) → Decides b (IsInexactForm E (constants s place))
  form_held place q true d = inr d
  form_held place q false d = λ k. elim k [ inl g ↦ none_some s.type_ g.form q g.given | inr h ↦ d h ]

-- what isn't of constants has none
pub form_other : (E : Env) (f : BorrowedForm) → ((x : Constants) → f ≡ borrowed.Constants x → ⊥) → IsInexactForm E (form_of f) → ⊥
form_other E (borrowed.Constants x) none k = none x refl
form_other E (borrowed.Variables s) none k = elim k [ inl g ↦ g | inr h ↦ h ]
form_other E (borrowed.Alias s) none k = elim k [ inl g ↦ g | inr h ↦ h ]
form_other E (borrowed.Definition s) none k = elim k [ inl g ↦ g | inr h ↦ h ]
form_other E (borrowed.Function g) none k = elim k [ inl g ↦ g | inr h ↦ h ]
form_other E (borrowed.Method receiver g) none k = elim k [ inl g ↦ g | inr h ↦ h ]

-- ---- declarations that are counted

pub both_decides : (P Q : Type 0) (b : Bool) → P → Decides b Q → Decides b (P × Q)
both_decides P Q true p d = (p, d)
both_decides P Q false p d = λ k. d k.1

-- ---- flags

-- what moved twice moved
pub moved_on : (a b c : Scopes) → IsMoved a b → IsMoved b c → IsMoved a c
moved_on a b c f g = g ∙ ap (λ (s : Scopes). record s { file = c.file; iota = c.iota }) f

-- a declaration stands in the same scopes once they moved
pub same_there : (c e : Scopes) (d : Declaration) → IsMoved c e → at_declaration e d ≡ at_declaration c d
same_there c e d m = ap (λ (s : Scopes). at_declaration s d) m

borrowed_at : (xs : List Borrowed) (n : ℕ) (x : Borrowed) → n < length xs → x ≡ get_or xs n x → slice_get (declarations_of xs) n ≡ Some (declaration_of x)
borrowed_at [] n x h is = absurd (omega (arith, h))
borrowed_at (d ∷ xs) zero x h is = ap (λ (y : Borrowed). Some (declaration_of y)) (sym is)
borrowed_at (d ∷ xs) (suc n) x h is = borrowed_at xs n x (omega (arith, h)) is

pub as_many : (xs : List Borrowed) → length (declarations_of xs) ≡ length xs
as_many [] = refl
as_many (x ∷ xs) = ap suc (as_many xs)

module _ (c : Scopes) (xs : List Borrowed) (rows : List (List ℕ)) (lost : List Bool) where
  abbrev pub There : ℕ → Type 0
  There = IsInexactThere c (declarations_of xs) rows lost

  module _ (k : ℕ) (x : Borrowed) (within : k < length xs) (is : x ≡ get_or xs k x) where
    abbrev Counts : Declaration → Type 0
    Counts d = NoneIsLost lost (row_of rows k) × IsInexactForm (env_of (at_declaration c d)) d.form

    there : Counts (declaration_of x) → There k
    there p = (declaration_of x, borrowed_at xs k x within is, p)

    only_there : There k → Counts (declaration_of x)
    only_there a = subst Counts (sym (some_once (declaration_of x) a.0 (sym (borrowed_at xs k x within is) ∙ a.1))) a.2

    -- of one more it is decided
    pub there_next : (e : Scopes) (flags after : List Bool) (row : List ℕ) (b : Bool) → IsMoved c e → row ≡ row_of rows k → after ≡ flags ++ b ∷ [] → AreFlagsOf k There flags
        → Decides b (NoneIsLost lost row × IsInexactForm (env_of (at_declaration e (declaration_of x))) (declaration_of x).form) → AreFlagsOf (k + 1) There after
    there_next e flags after row b moved r made are d =
        let s = same_there c e (declaration_of x) moved in
        let q : Decides b (Counts (declaration_of x)) =
        subst (λ (z : Scopes). Decides b (NoneIsLost lost (row_of rows k) × IsInexactForm (env_of z) (declaration_of x).form)) s
        (subst (λ (z : List ℕ). Decides b (NoneIsLost lost z × IsInexactForm (env_of (at_declaration e (declaration_of x))) (declaration_of x).form)) r d) in
        subst (AreFlagsOf (k + 1) There) (sym made)
        (flags_next k There flags b are (λ t. there (subst (λ (z : Bool). Decides z (Counts (declaration_of x))) t q)) (λ t a. (let none : Counts (declaration_of x) → ⊥ = subst (λ (z : Bool). Decides z (Counts (declaration_of x))) t q in none (only_there a))))

pub form_grows : (E F : Env) → Grows E F → (f : Form) → IsInexactForm E f → IsInexactForm F f
form_grows E F m f (inl k) = inl (type_grows E F m f k)
form_grows E F m f (inr k) = inr (value_grows E F m f k)

module _ (s : Setting) (u : PackageSource) (a : Entries) (c : Scopes) (rows : List (List ℕ)) (lost : List Bool) (ds : List Declaration)
    (listed : declarations u ≡ ds)
    (are : AreRows s u a (Depends s u a) rows)
    (grows : (d : Declaration) → Grows (env_of (at_declaration c d)) (environment s u a d))
    (back : (d : Declaration) → Grows (environment s u a d) (env_of (at_declaration c d))) where
  kept : (n : ℕ) → NoneIsLost lost (row_of rows n) ↔ ((m : ℕ) → Depends s u a n m → is_flagged lost m ≡ false)
  kept n = ((λ k m h. k m ((are.exact n m).1 h)), (λ k m h. k m ((are.exact n m).0 h)))

  told : (n : ℕ) → IsInexactThere c (declarations u) rows lost n → IsToldInexact s u a (is_flagged lost) n
  told n k = record { kept = (kept n).0 k.2.0; holds = (k.0, k.1, form_grows (env_of (at_declaration c k.0)) (environment s u a k.0) (grows k.0) k.0.form k.2.1) }

  of_told : (n : ℕ) → IsToldInexact s u a (is_flagged lost) n → IsInexactThere c (declarations u) rows lost n
  of_told n k = let h = k.holds in (h.0, h.1, ((kept n).1 k.kept, form_grows (environment s u a h.0) (env_of (at_declaration c h.0)) (back h.0) h.0.form h.2))

  pub told_flags : (flags : List Bool) → AreFlagsOf (length ds) (IsInexactThere c ds rows lost) flags → AreFlagsOf (length (declarations u)) (IsToldInexact s u a (is_flagged lost)) flags
  told_flags flags f =
      let g : AreFlagsOf (length (declarations u)) (IsInexactThere c (declarations u) rows lost) flags = subst (λ (zs : List Declaration). AreFlagsOf (length zs) (IsInexactThere c zs rows lost) flags) (sym listed) f in
      record { size = g.size; sound = λ n h. told n (g.sound n h); complete = λ n h k. g.complete n h (of_told n k) }
