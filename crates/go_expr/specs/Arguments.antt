-- Arguments of calls.
-- Public source: Go specification, "Calls" and "Channel types".
use Rattle.std.specs.Prelude.{◌≡◌, List, ◌++◌}
use Rattle.go_rules.specs.Environments.{Env}
use Rattle.go_rules.specs.Expressions.{HasEach}
use Rattle.go_rules.specs.declared.operand.Operand.{Operand}
use Rattle.go_syntax.specs.declared.expression.Expr.{Expr}
use Rattle.go_syntax.specs.declared.expression.Expr.TheVariants as expr
use Rattle.go_syntax.specs.declared.types.«Type».{«Type» as Typ}
use Rattle.go_syntax.specs.declared.types.«Type».TheVariants as type

-- the type of channels of the element type that can only be received from, as an expression
abbrev pub receive_type : Typ → Expr
receive_type t = expr.Type (type.ReceiveChan t)

-- some operands, and behind them what each expression is
abbrev pub HasEachAfter : Env → List Operand → List Expr → List Operand → Type 0
HasEachAfter E before es all = (os : List Operand) × HasEach E es os × (all ≡ before ++ os)
