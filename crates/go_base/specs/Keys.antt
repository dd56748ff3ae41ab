-- Look-ups by a key.
-- Own: words on lists.
use Rattle.std.specs.Prelude.{◌≡◌, ◌≤◌, length, ℕ, List, [], ◌∷◌, Option, Some, None, if◌then◌else◌}
use Rattle.std.specs.Str.{bytes_eq}
use Rattle.std.specs.List.{insert}
use Rattle.std.specs.Ordering.{nat_cmp, is_lt}
use Rattle.std.specs.Cmp.Lexicographic.{slice_cmp}
use denote.Ref.{Bor}

-- the first item with this key
abbrev pub first_with : {A : Type 0} → (A → List ℕ) → List A → List ℕ → Option A
first_with key [] k = None
first_with key (x ∷ xs) k = if bytes_eq (key x) k then Some x else first_with key xs k

-- what a look-up gave
abbrev pub item_of : {A : Type 0} → Option (Bor A) → Option A
item_of None = None
item_of (Some x) = Some x.now

-- an item in its place in a list that is ordered by a key
abbrev pub placed : {A : Type 0} → (A → List ℕ) → A → List A → List A
placed key y [] = y ∷ []
placed key y (x ∷ xs) = if is_lt (slice_cmp nat_cmp (key y) (key x)) then y ∷ x ∷ xs else x ∷ placed key y xs

-- the place of an item with this key
abbrev pub PlaceFor : {A : Type 0} → (A → List ℕ) → List A → List ℕ → ℕ → Type 0
PlaceFor {A} key xs k at = (at ≤ length xs) × ((y : A) → key y ≡ k → placed key y xs ≡ insert xs at y)
