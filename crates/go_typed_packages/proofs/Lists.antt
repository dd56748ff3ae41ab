-- What holds of each item of lists, and what a list finds by a key once an item is placed in it.
use Rattle.std.proofs.Common.{◌≡◌, ℕ, Bool, true, false, List, [], ◌∷◌, Some, None, map, refl, sym, ◌∙◌, subst, if◌then◌else◌, ◌⊎◌, inl, inr}
use Rattle.std.specs.Cmp.Lexicographic.{slice_cmp}
use Rattle.std.specs.Ordering.{is_lt, nat_cmp}
use Rattle.std.specs.Str.{bytes_eq}
use Rattle.std.proofs.lemmas.Slice.Eq.{bytes_eq-Decides}
use Rattle.go_base.specs.Gathered.{gather}
use Rattle.go_base.specs.Keys.{first_with, placed}
use Rattle.go_base.specs.Lists.{Each, Has}
use Rattle.go_model.proofs.WorldTypes.{each_behind, each_front}
use Rattle.go_rules.proofs.LocalParts.{each_both}
use Rattle.go_rules.proofs.OneKind.{no_truth}
use Rattle.go_typings.proofs.Cells.{either, if_false, if_true, none_some}

pub each_as : {A : Type 0} (P Q : A → Type 0) (xs : List A) → ((x : A) → P x → Q x) → Each P xs → Each Q xs
each_as P Q [] f h = tt
each_as P Q (x ∷ xs) f h = (f x h.0, each_as P Q xs f h.1)

pub each_gathered : {A B : Type 0} (P : B → Type 0) (f : A → List B) (xs : List A) → Each (λ x. Each P (f x)) xs → Each P (gather f xs)
each_gathered P f [] h = tt
each_gathered P f (x ∷ xs) h = each_both P (f x) (gather f xs) h.0 (each_gathered P f xs h.1)

pub each_given : {A B : Type 0} (P : B → Type 0) (f : A → List B) (xs : List A) (x : A) → Each P (gather f xs) → Has xs x → Each P (f x)
each_given P f [] x h k = absurd k
each_given P f (y ∷ xs) x h (inl e) = subst (λ z. Each P (f z)) e (each_front P (f y) (gather f xs) h)
each_given P f (y ∷ xs) x h (inr k) = each_given P f xs x (each_behind P (f y) (gather f xs) h) k

module _ {A : Type 0} (key : A → List ℕ) where
  -- no item has a key that finds none
  pub absent : (xs : List A) (k : List ℕ) → first_with key xs k ≡ None → Has (map key xs) k → ⊥
  absent [] k e h = absurd h
  absent (x ∷ xs) k e h = choose (bytes_eq (key x) k) refl (absent xs k) e h
    where
      choose : (b : Bool) → bytes_eq (key x) k ≡ b → (first_with key xs k ≡ None → Has (map key xs) k → ⊥) → (if b then Some x else first_with key xs k) ≡ None → (key x ≡ k) ⊎ Has (map key xs) k → ⊥
      choose true f r g j = none_some (Some x) x g refl
      choose false f r g (inl d) = no_truth (sym ((bytes_eq-Decides (key x) k).1 d) ∙ f)
      choose false f r g (inr j) = r g j

  -- an item with a new key is found by it
  pub own_placed : (y : A) (xs : List A) → (Has (map key xs) (key y) → ⊥) → first_with key (placed key y xs) (key y) ≡ Some y
  own_placed y [] new = if_true (bytes_eq (key y) (key y)) (Some y) None ((bytes_eq-Decides (key y) (key y)).1 refl)
  own_placed y (x ∷ xs) new = choose (is_lt (slice_cmp nat_cmp (key y) (key x))) (own_placed y xs (λ h. new (inr h)))
    where
      other : bytes_eq (key x) (key y) ≡ false
      other = elim (either (bytes_eq (key x) (key y))) [ inl e ↦ absurd (new (inl ((bytes_eq-Decides (key x) (key y)).0 e))) | inr e ↦ e ]

      choose : (b : Bool) → first_with key (placed key y xs) (key y) ≡ Some y → first_with key (if b then y ∷ x ∷ xs else x ∷ placed key y xs) (key y) ≡ Some y
      choose true h = if_true (bytes_eq (key y) (key y)) (Some y) (first_with key (x ∷ xs) (key y)) ((bytes_eq-Decides (key y) (key y)).1 refl)
      choose false h = if_false (bytes_eq (key x) (key y)) (Some x) (first_with key (placed key y xs) (key y)) other ∙ h
