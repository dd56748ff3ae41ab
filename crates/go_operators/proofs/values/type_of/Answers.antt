use Rattle.std.proofs.Common.{sym}
use Rattle.go_operators.proofs.TypedOperands.{typed_by_constant, typed_by_shape, untyped_fixed}
use Rattle.go_operators.proofs.values.type_of.Goals as goal

pub returns-in-OfTerm : goal.returns-in-OfTerm
returns-in-OfTerm c = typed_by_constant c.args.operand.now _ _ _ c.in-Some.ensures c.in-OfTerm.is

pub returns-then-is_value : goal.returns-then-is_value
returns-then-is_value c = typed_by_shape c.args.operand.now _ c.in-Of.is (sym c.if-is_value.ensures)

pub returns-in-Fixed : goal.returns-in-Fixed
returns-in-Fixed c = untyped_fixed c.args.operand.now _ _ c.in_default.ensures c.in-Fixed.is
