use Rattle.std.proofs.Common.{take, ◌+◌, refl}
use Rattle.go_selectors.proofs.Lists.{taken_next}
use Rattle.api_breaks.specs.inner.Pairs.{KeepsIn, IsFieldGone}
use Rattle.api_breaks.proofs.Telling.{told_none, told_more, told_all}
use Rattle.api_breaks.proofs.pairs.push_all_fields.Goals as goal

pub loop-field-init : goal.loop-field-init
loop-field-init c = told_none (KeepsIn c.args.after.now) (IsFieldGone c.args.after.now) c.args.losses.now.items

pub loop-field-preserved : goal.loop-field-preserved
loop-field-preserved c = told_more (KeepsIn c.args.after.now) (IsFieldGone c.args.after.now) (take c.loop-field.field-index c.args.before.now) (take (c.loop-field.field-index + 1) c.args.before.now) c.field-item.result c.args.losses.now.items c.loop-field.losses.items c.push_field.new.losses.items (taken_next c.args.before.now c.loop-field.field-index c.field-item.result c.loop-field-test.true c.field-item.is) c.loop-field.invariant c.in_ok-push_field.ensures

pub returns : goal.returns
returns c = told_all (KeepsIn c.args.after.now) (IsFieldGone c.args.after.now) c.args.before.now c.args.before.now c.loop-field.field-index c.args.losses.now.items c.loop-field.losses.items refl c.loop-field-test.false c.loop-field.invariant
