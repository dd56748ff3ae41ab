-- The names that a package declares, in order: any other name denotes nothing there.
use Rattle.std.proofs.Common.{◌≡◌, ℕ, zero, suc, Bool, true, false, List, [], ◌∷◌, Option, Some, None, refl, sym, ap, subst, inl, inr}
use Rattle.std.specs.Prelude.{if◌then◌else◌, slice_get}
use Rattle.std.specs.Str.{bytes_eq}
use Rattle.std.proofs.lemmas.Slice.Eq.{bytes_eq-Decides}
use Rattle.go_base.specs.Gathered.{gather}
use Rattle.go_base.specs.Lists.{Ascending, Has}
use Rattle.go_existence.proofs.FiniteSets.{has_left, has_right}
use Rattle.go_existence.proofs.OrderedTexts.{sorted_texts}
use Rattle.go_rules.specs.Asks.{texts}
use Rattle.go_soundness.proofs.DeclaredForms.{is_at}
use Rattle.go_typings.proofs.Cells.{maybe, none_some}
use Rattle.go_typings.specs.Declarations.{Declaration, Declared, declared, names_of, place_from}

abbrev names_in : Declaration → List (List ℕ)
names_in d = texts (names_of d.form)

placed_has : (k : ℕ) (ns : List (List ℕ)) (name : List ℕ) (p : ℕ) → place_from k ns name ≡ Some p → Has ns name
placed_has k [] name p e = none_some (place_from k [] name) p refl e
placed_has k (n ∷ ns) name p e = choose (bytes_eq n name) refl e (placed_has (suc k) ns name p)
  where
    choose : (b : Bool) → bytes_eq n name ≡ b → (if b then Some k else place_from (suc k) ns name) ≡ Some p → (place_from (suc k) ns name ≡ Some p → Has ns name) → Has (n ∷ ns) name
    choose true f g rest = inl ((bytes_eq-Decides n name).0 f)
    choose false f g rest = inr (rest g)

gathered_at : {A B : Type 0} (f : A → List B) (xs : List A) (n : ℕ) (x : A) (y : B) → slice_get xs n ≡ Some x → Has (f x) y → Has (gather f xs) y
gathered_at f [] n x y e h = none_some (slice_get [] n) x refl e
gathered_at f (z ∷ xs) zero x y e h = has_left (f z) (gather f xs) y (subst (λ w. Has (f w) y) (let i : x ≡ z = cc in i) h)
gathered_at f (z ∷ xs) (suc n) x y e h = has_right (f z) (gather f xs) y (gathered_at f xs n x y e h)

module _ (ds : List Declaration) where
  abbrev all_names : List (List ℕ)
  all_names = gather names_in ds

  named : (name : List ℕ) (w : Declared) → declared ds name ≡ Some w → Has all_names name
  named name w e =
      let i = is_at ds name w e in
      gathered_at names_in ds w.number i.declaration name i.is (subst (λ f. Has (texts (names_of f)) name) (sym i.form) (placed_has 0 (texts (names_of w.form)) name w.place i.place))

  pub declared_names : List (List ℕ)
  declared_names = (sorted_texts all_names).0

  pub names_ascend : Ascending declared_names
  unfolding declared_names
  names_ascend = (sorted_texts all_names).1

  pub others_undeclared : (name : List ℕ) → (Has declared_names name → ⊥) → declared ds name ≡ None
  unfolding declared_names
  others_undeclared name h = elim (maybe (declared ds name)) [
    | inl w ↦ absurd (h (((sorted_texts all_names).2 name).1 (named name w.0 w.1)))
    | inr e ↦ e
  ]
