-- Lost declarations that may not be left out, told by flags.
-- Own: words on lists.
use Rattle.std.specs.Prelude.{◌||◌, ◌&&◌, not, ℕ, Bool, List}
use Rattle.go_graphs.specs.Flags.{is_flagged}

-- it is lost, and seen or not beyond the profile
abbrev pub is_wrong : List Bool → List Bool → List Bool → ℕ → Bool
is_wrong lost seen beyond n = is_flagged lost n && (is_flagged seen n || not (is_flagged beyond n))
