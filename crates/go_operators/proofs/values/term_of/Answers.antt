use Rattle.go_rules.specs.Operands.{is_of_kind}
use Rattle.go_operators.proofs.TypedOperands.{of_type}
use Rattle.go_operators.proofs.values.term_of.Goals as goal

pub returns-in-Some : goal.returns-in-Some
returns-in-Some c = of_type c.args.operand.now _ _ c.in-Some.ensures c.in_ok-copy.ensures

pub returns-in-Some-untyped_of : goal.returns-in-Some-untyped_of
returns-in-Some-untyped_of c = is_of_kind c.in-Some-untyped_of.ensures
