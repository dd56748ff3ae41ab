-- What is found in runs of statements: that all are typed, or the least of their untyped places.
-- Own.
use Rattle.std.specs.Prelude.{◌≤◌, ℕ, min, List, Option, None, Some}
use Rattle.go_rules.specs.Environments.{Env}
use Rattle.go_statement_rules.specs.Bodies.{IsTypedRun}
use Rattle.go_statement_rules.specs.Functions.{Run}
use Rattle.go_statement_rules.specs.Places.{IsUntypedPlace}
use Rattle.go_syntax.specs.declared.statement.LiteralBlock.{LiteralBlock}

-- this is found in all runs of which the fact holds
abbrev pub Surveyed : Env → List LiteralBlock → (Run → Type 0) → Option ℕ → Type 0
Surveyed E blocks P None = (v : Run) → P v → IsTypedRun E blocks v
Surveyed E blocks P (Some p) = (v : Run) × P v × IsUntypedPlace E blocks v p × ((w : Run) (q : ℕ) → P w → IsUntypedPlace E blocks w q → p ≤ q)

-- the lesser of two places, where there are any
abbrev pub lesser : Option ℕ → Option ℕ → Option ℕ
lesser None b = b
lesser (Some p) None = Some p
lesser (Some p) (Some q) = Some (min p q)

-- the place, where there is one, else the other
abbrev pub place_or : ℕ → Option ℕ → ℕ
place_or start None = start
place_or start (Some p) = p
