-- Entries in the order of their names.
-- Own: words of the contracts inside this crate.
use Rattle.std.specs.Prelude.{◌≡◌, ℕ, Bool, true, false, List}
use Rattle.std.specs.Cmp.Lexicographic.{slice_cmp}
use Rattle.std.specs.List.Sorted.{IsPartitionPoint, IsSortedBy, IsStrictlySortedBy}
use Rattle.std.specs.Map.{keys_of}
use Rattle.std.specs.Ordering.{is_lt, nat_cmp}
use Rattle.go_rules.specs.Names.{Named, value_at}
use Rattle.go_declared.specs.declared.names.NamePlace.{NamePlace}

abbrev pub is_before : List ℕ → List ℕ → Bool
is_before a b = is_lt (slice_cmp nat_cmp a b)

-- no name comes before the one that it follows
abbrev pub AreSorted : Named NamePlace → Type 0
AreSorted es = IsSortedBy (λ d e. is_before d.0 e.0) es

-- each name comes before all that follow it
abbrev pub Rise : Named NamePlace → Type 0
Rise es = IsStrictlySortedBy (slice_cmp nat_cmp) (keys_of es)

-- each name is first at the same place in both
abbrev pub TellSame : Named NamePlace → Named NamePlace → Type 0
TellSame es fs = (name : List ℕ) → value_at fs name ≡ value_at es name

-- the entries below the index have names before the name, and the others don't
abbrev pub IsFirstFrom : Named NamePlace → List ℕ → ℕ → Type 0
IsFirstFrom es name at = IsPartitionPoint (λ e. is_before e.0 name ≡ true) (λ e. is_before e.0 name ≡ false) es at
