use Rattle.go_operators.proofs.TypedOperands.{value_at, no_value_at}
use Rattle.go_operators.proofs.values.value_in.Goals as goal

pub returns-in-Some : goal.returns-in-Some
returns-in-Some c = value_at c.args.operand.now _ _ c.in-Some.ensures

pub returns-in-None : goal.returns-in-None
returns-in-None c = no_value_at c.args.operand.now c.in-None.ensures
