use Rattle.std.proofs.Common.{refl}
use Rattle.go_usability.proofs.Using.{is_typed, not_typed}
use Rattle.go_usability.proofs.operands.type_of.Goals as goal

pub returns-in-OfType : goal.returns-in-OfType
returns-in-OfType c = is_typed c.args.operand.now c.in-OfType.term.now c.in-OfType.ensures

pub returns-in-Constant : goal.returns-in-Constant
returns-in-Constant c = not_typed c.args.operand.now _ c.in-Constant.ensures refl

pub returns-in-Truth : goal.returns-in-Truth
returns-in-Truth c = not_typed c.args.operand.now _ c.in-Truth.ensures refl

pub returns-in-Nil : goal.returns-in-Nil
returns-in-Nil c = not_typed c.args.operand.now _ c.in-Nil.ensures refl

pub returns-in-Nothing : goal.returns-in-Nothing
returns-in-Nothing c = not_typed c.args.operand.now _ c.in-Nothing.ensures refl
