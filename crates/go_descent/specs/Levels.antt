-- The readers of trees up to a height.
-- Own: how the parser reads what the grammar derives.
use Rattle.std.specs.Prelude.{ℕ}
use Rattle.go_cursor.specs.Skipping.{skipped_body}
use Rattle.go_descent.specs.Rules.{Parts, parts}

-- the readers of trees of a height below this, where bodies are skipped
abbrev pub levels : ℕ → Parts
levels h = parts (λ _. skipped_body) h
