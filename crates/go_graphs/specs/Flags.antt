-- Sets of numbers, as flags.
-- Own: words on lists.
use Rattle.std.specs.Prelude.{◌≡◌, ◌<◌, ℕ, Bool, true, false, List, length, get_or}

-- the number is flagged
abbrev pub is_flagged : List Bool → ℕ → Bool
is_flagged flags n = get_or flags n false

-- of the numbers below this one those with the property are flagged
pub record AreFlagsOf (count : ℕ) (P : ℕ → Type 0) (flags : List Bool) : Type 0 where
  pub size : length flags ≡ count
  pub sound : (n : ℕ) → is_flagged flags n ≡ true → P n
  pub complete : (n : ℕ) → n < count → P n → is_flagged flags n ≡ true
