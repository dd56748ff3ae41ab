-- The rows of the universe, as the code has them.
-- Own: words on rows.
use Rattle.std.specs.Prelude.{ℕ, List, map}
use Rattle.go_rules.specs.declared.predeclared.Predeclared.{Predeclared}
use Rattle.go_rules.specs.declared.predeclared.Row.{Row}

-- each row's name and variant
abbrev pub rows_of : List Row → List (List ℕ × Predeclared)
rows_of rows = map (λ r. (r.name.now, r.predeclared)) rows
