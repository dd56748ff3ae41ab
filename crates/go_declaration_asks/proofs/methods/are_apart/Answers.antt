use Rattle.std.proofs.Common.{arith}
use Rattle.go_nodes.proofs.EachItems.{each_done, each_next, each_not}
use Rattle.go_declaration_asks.specs.inner.MethodsOf.{HasOtherName}
use Rattle.go_declaration_asks.proofs.methods.are_apart.Goals as goal

pub returns-then-not-has_other_name : goal.returns-then-not-has_other_name
returns-then-not-has_other_name c = each_not (HasOtherName c.args.name.now) c.args.fields.now c.loop-field.field-index c.field-item.result c.loop-field-test.true c.field-item.is c.loop-field.invariant c.has_other_name.result c.if-not-has_other_name.true c.has_other_name.ensures

pub loop-field-preserved : goal.loop-field-preserved
loop-field-preserved c = each_next (HasOtherName c.args.name.now) c.args.fields.now c.loop-field.field-index c.field-item.result c.loop-field-test.true c.field-item.is c.loop-field.invariant c.has_other_name.result c.if-not-has_other_name.false c.has_other_name.ensures

pub returns : goal.returns
returns c = each_done (HasOtherName c.args.name.now) c.args.fields.now c.loop-field.field-index (omega arith) c.loop-field.invariant
