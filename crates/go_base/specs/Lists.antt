-- Words on lists that the contracts of all crates share.
-- Own: words on lists.
use Rattle.std.specs.Prelude.{◌≡◌, ◌⊎◌, ℕ, Bool, true, List, [], ◌∷◌}
use Rattle.std.specs.Ordering.{nat_cmp, is_lt}
use Rattle.std.specs.Cmp.Lexicographic.{slice_cmp}

-- the item stands in the list
abbrev pub Has : {A : Type 0} → List A → A → Type 0
Has [] x = ⊥
Has (y ∷ ys) x = (y ≡ x) ⊎ Has ys x

-- the fact holds of each item
abbrev pub Each : {A : Type 0} → (A → Type 0) → List A → Type 0
Each P [] = Unit {0}
Each P (x ∷ xs) = P x × Each P xs

-- each item passes the test
abbrev pub Passes : {A : Type 0} → (A → Bool) → List A → Type 0
Passes p [] = Unit {0}
Passes p (x ∷ xs) = (p x ≡ true) × Passes p xs

-- no item stands twice
abbrev pub Once : {A : Type 0} → List A → Type 0
Once [] = Unit {0}
Once (x ∷ xs) = (Has xs x → ⊥) × Once xs

-- the first text comes before the second in the order of bytes
abbrev pub Before : List ℕ → List ℕ → Type 0
Before a b = is_lt (slice_cmp nat_cmp a b) ≡ true

-- each text comes before all that follow it
abbrev pub Ascending : List (List ℕ) → Type 0
Ascending [] = Unit {0}
Ascending (x ∷ xs) = Each (Before x) xs × Ascending xs
