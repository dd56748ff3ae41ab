-- What an entry more leaves as it was.
use Rattle.std.proofs.Common.{◌≡◌, ℕ, nat_eq, Bool, true, false, List, Option, Some, None, refl, sym, ap, ◌∙◌, arith}
use Rattle.std.specs.Prelude.{if◌then◌else◌, slice_get}
use Rattle.std.specs.Option.{option_or}
use Rattle.std.proofs.lemmas.Bool.Decides.{nat_tests}
use Rattle.go_model.specs.declared.types.package.Entity.{Entity}
use Rattle.go_rules.specs.declared.seen.Seen.{Seen}
use Rattle.go_syntax.specs.declared.declaration.TypeSpec.{TypeSpec}
use Rattle.go_typings.specs.Declarations.{Form, constants, variables, alias, definition, function, method, Declared}
use Rattle.go_typings.specs.PackageEnvironments.{as_object, Entries, Entry, entity_at, entity_by, object_of, objects}
use Rattle.go_typings.proofs.Cells.{if_false, if_true}
use Rattle.go_package_scopes.specs.KeptScopes.{object_here, with_entry}

pub same_number : (m n : ℕ) → nat_eq m n ≡ true → m ≡ n
same_number m n e = grind (arith, nat_tests, e)

pub itself : (n : ℕ) → nat_eq n n ≡ true
itself n = grind (arith, nat_tests)

module _ (a : Entries) (n : ℕ) (x : Entry) where
  abbrev b : Entries
  b = with_entry a n x

  pub entry_here : (m : ℕ) → nat_eq m n ≡ true → b m ≡ Some x
  entry_here m e = if_true (nat_eq m n) (Some x) (a m) e

  pub entry_elsewhere : (m : ℕ) → nat_eq m n ≡ false → b m ≡ a m
  entry_elsewhere m e = if_false (nat_eq m n) (Some x) (a m) e

  -- what is told alike of nothing and of the entry is told as it was
  pub told_alike : {A : Type 0} (tell : Option Entry → A) → a n ≡ None → tell None ≡ tell (Some x) → (m : ℕ) → tell (a m) ≡ tell (b m)
  told_alike {A = A} tell fresh same m = by (nat_eq m n) refl
    where
      by : (c : Bool) → nat_eq m n ≡ c → tell (a m) ≡ tell (b m)
      by true e = ap (λ (k : ℕ). tell (a k)) (same_number m n e) ∙ ap tell fresh ∙ same ∙ sym (ap tell (entry_here m e))
      by false e = sym (ap tell (entry_elsewhere m e))

-- ---- names

module _ (path : List ℕ) where
  entity_same : (a b : Entries) (number place : ℕ) (f : Form) → object_of (a number) place ≡ object_of (b number) place → entity_by path a number place f ≡ entity_by path b number place f
  entity_same a b number place (definition spec) e = refl
  entity_same a b number place (constants spec at) e = e
  entity_same a b number place (variables spec) e = e
  entity_same a b number place (alias spec) e = e
  entity_same a b number place (function f) e = e
  entity_same a b number place (method receiver f) e = e

  -- where the same objects are had, a name denotes the same
  pub entity_kept : (a b : Entries) → ((number place : ℕ) → object_of (a number) place ≡ object_of (b number) place) → (w : Option Declared) → entity_at path a w ≡ entity_at path b w
  entity_kept a b same None = refl
  entity_kept a b same (Some w) = entity_same a b w.number w.place w.form (same w.number w.place)

  no_definition : (a : Entries) (number place : ℕ) (f : Form) → ((spec : TypeSpec) → f ≡ definition spec → ⊥) → entity_by path a number place f ≡ object_of (a number) place
  no_definition a number place (definition spec) h = absurd (h spec refl)
  no_definition a number place (constants spec at) h = refl
  no_definition a number place (variables spec) h = refl
  no_definition a number place (alias spec) h = refl
  no_definition a number place (function f) h = refl
  no_definition a number place (method receiver f) h = refl

  or_none : (o : Option Seen) → option_or o None ≡ o
  or_none None = refl
  or_none (Some x) = refl

  module _ (a : Entries) (n : ℕ) (xs : List Entity) (fresh : a n ≡ None) where
    abbrev later : Entries
    later = with_entry a n (objects xs)

    entity_here : (number place : ℕ) (f : Form) → ((spec : TypeSpec) → f ≡ definition spec → ⊥) → nat_eq number n ≡ true
        → option_or (as_object (slice_get xs place)) (as_object (entity_by path a number place f)) ≡ as_object (entity_by path later number place f)
    entity_here number place f not e =
        ap (λ o. option_or (as_object (slice_get xs place)) (as_object o)) (no_definition a number place f not ∙ ap (λ (k : ℕ). object_of (a k) place) (same_number number n e) ∙ ap (λ o. object_of o place) fresh)
        ∙ or_none (as_object (slice_get xs place))
        ∙ sym (ap as_object (no_definition later number place f not ∙ ap (λ o. object_of o place) (entry_here a n (objects xs) number e)))

    -- once the objects of a declaration are had, its names mean them
    pub entity_more : (w : Option Declared) → ((v : Declared) → w ≡ Some v → v.number ≡ n → (spec : TypeSpec) → v.form ≡ definition spec → ⊥)
        → option_or (object_here n xs w) (as_object (entity_at path a w)) ≡ as_object (entity_at path later w)
    entity_more None h = refl
    entity_more (Some v) h = by (nat_eq v.number n) refl
      where
        by : (c : Bool) → nat_eq v.number n ≡ c
            → option_or (if c then as_object (slice_get xs v.place) else None) (as_object (entity_by path a v.number v.place v.form)) ≡ as_object (entity_by path later v.number v.place v.form)
        by true e = entity_here v.number v.place v.form (h v refl (same_number v.number n e)) e
        by false e = ap as_object (entity_same a later v.number v.place v.form (sym (ap (λ o. object_of o v.place) (entry_elsewhere a n (objects xs) v.number e))))
