-- The numbers of the packages on a level.
-- Own.
use Rattle.std.specs.Prelude.{◌≡◌, ◌<◌, ◌+◌, ℕ, Bool, true, false, List, [], ◌∷◌, nat_eq, nat_lt, slice_index}
use Rattle.go_base.specs.Lists.{Has, Once}

-- these are the numbers below an end whose packages are on the level, each once
pub record AreOnLevel (levels : List ℕ) (level end : ℕ) (ns : List ℕ) : Type 0 where
  pub once : Once ns
  pub within : (n : ℕ) → Has ns n → n < end
  pub on : (n : ℕ) → Has ns n → slice_index levels n ≡ level
  pub all : (n : ℕ) → n < end → slice_index levels n ≡ level → Has ns n

abbrev pub counted : Bool → ℕ
counted true = 1
counted false = 0

-- how many are on a level
abbrev pub on_level : List ℕ → ℕ → ℕ
on_level [] level = 0
on_level (l ∷ ls) level = counted (nat_eq l level) + on_level ls level

-- how many are below it
abbrev pub below_level : List ℕ → ℕ → ℕ
below_level [] level = 0
below_level (l ∷ ls) level = counted (nat_lt l level) + below_level ls level
