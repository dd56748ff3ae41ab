use Rattle.std.proofs.Common.{◌∙◌, ap}
use Rattle.go_model.specs.declared.constants.value.Basic.TheVariants as basic
use Rattle.go_rules.specs.Operands.{plain}
use Rattle.go_operators.proofs.LevelForms.{plain_is}
use Rattle.go_elements.proofs.Slicing.{untyped_not_simple, untyped_some, untyped_no_constant}
use Rattle.go_elements.proofs.slices.slice_untyped.Goals as goal

pub returns-then-not-simple : goal.returns-then-not-simple
returns-then-not-simple c = untyped_not_simple c.args.simple c.args.operand.now c.if-not-simple.true

pub returns-in-Some-untyped_length : goal.returns-in-Some-untyped_length
returns-in-Some-untyped_length c = untyped_some c.args.simple c.args.operand.now _ _ _ _ c.if-not-simple.false c.in-Some.ensures c.in-Some-untyped_length.ensures (c.plain.ensures ∙ ap plain (plain_is basic.Str))

pub returns-in-None : goal.returns-in-None
returns-in-None c = untyped_no_constant c.args.simple c.args.operand.now c.in-None.ensures
