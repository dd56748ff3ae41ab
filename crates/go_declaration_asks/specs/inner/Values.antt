-- The type of variables and the values that they are given.
use Rattle.std.specs.Prelude.{ℕ, List}
use Rattle.go_model.specs.declared.types.term.Term.{Term}
use Rattle.go_rules.specs.Environments.{Env}
use Rattle.go_rules.specs.Expressions.{OfType}
use Rattle.go_rules.specs.declared.operand.Operand.{Operand}
use Rattle.go_syntax.specs.declared.expression.Expr.{Expr}
use Rattle.go_syntax.specs.declared.types.«Type».{«Type» as Typ}
use Rattle.go_typings.specs.Initializers.{Initialize}

abbrev pub GivesValues : Env → Typ → ℕ → List Expr → Term × List Operand → Type 0
GivesValues E t n es given = OfType E t given.0 × Initialize E n es given.1
