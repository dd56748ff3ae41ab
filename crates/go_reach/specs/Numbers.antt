-- The numbers that are flagged.
-- Own: words on lists.
use Rattle.std.specs.Prelude.{◌≡◌, ◌<◌, ◌↔◌, ℕ, Bool, true, List}
use Rattle.go_base.specs.Lists.{Has}
use Rattle.go_graphs.specs.Flags.{is_flagged}

-- just those below a count that are flagged
abbrev pub AreFlagged : List Bool → ℕ → List ℕ → Type 0
AreFlagged flags count numbers = (n : ℕ) → Has numbers n ↔ ((n < count) × (is_flagged flags n ≡ true))
