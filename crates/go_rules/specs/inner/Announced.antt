-- Names that a package is known to declare, as a sorted list holds them.
-- Own: words of the contracts inside this crate.
use Rattle.std.specs.Prelude.{◌≡◌, ℕ, List, map}
use Rattle.std.specs.Cmp.Lexicographic.{slice_cmp}
use Rattle.std.specs.List.{AllByRecursion}
use Rattle.std.specs.List.Sorted.{IsStrictlySortedBy}
use Rattle.std.specs.Ordering.{nat_cmp}
use Rattle.std.specs.declared.cmp.Ordering.TheVariants.{Less}
use Rattle.go_rules.specs.Names.{Named}

-- the names as a table that has nothing to tell of them
abbrev pub listed : List (List ℕ) → Named (Unit {0})
listed names = map (λ n. (n, tt)) names

-- each name comes before all that follow it
abbrev pub Rise : List (List ℕ) → Type 0
Rise names = IsStrictlySortedBy (slice_cmp nat_cmp) names

-- each of the names comes before this one
abbrev pub AllBefore : List (List ℕ) → List ℕ → Type 0
AllBefore names name = AllByRecursion (λ n. slice_cmp nat_cmp n name ≡ Less) names
