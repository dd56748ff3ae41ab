use Rattle.go_operators.proofs.TypedOperands.{untyped_by_constant, untyped_by_loose, no_kind_of_loose}
use Rattle.go_operators.proofs.values.untyped_of.Goals as goal

pub returns-in-OfKind : goal.returns-in-OfKind
returns-in-OfKind c = untyped_by_constant c.args.operand.now _ _ _ c.in-Some.ensures c.in-OfKind.is

pub returns-then-is_loose_truth : goal.returns-then-is_loose_truth
returns-then-is_loose_truth c = untyped_by_loose c.args.operand.now c.if-is_loose_truth.ensures

pub returns-else-is_loose_truth : goal.returns-else-is_loose_truth
returns-else-is_loose_truth c = no_kind_of_loose c.args.operand.now c.in_default.ensures c.if-is_loose_truth.ensures
