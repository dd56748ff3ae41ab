use Rattle.std.proofs.Common.{refl}
use Rattle.go_usability.proofs.Using.{constant_kind, truth_kind, not_untyped}
use Rattle.go_usability.proofs.operands.kind_of.Goals as goal

pub returns-in-OfType : goal.returns-in-OfType
returns-in-OfType c = not_untyped c.args.operand.now _ c.in-OfType.ensures refl

pub returns-in-Constant : goal.returns-in-Constant
returns-in-Constant c = constant_kind c.args.operand.now c.in-Constant.kind _ c.in-Constant.ensures

pub returns-in-Truth : goal.returns-in-Truth
returns-in-Truth c = truth_kind c.args.operand.now c.in-Truth.ensures

pub returns-in-Nil : goal.returns-in-Nil
returns-in-Nil c = not_untyped c.args.operand.now _ c.in-Nil.ensures refl

pub returns-in-Nothing : goal.returns-in-Nothing
returns-in-Nothing c = not_untyped c.args.operand.now _ c.in-Nothing.ensures refl
