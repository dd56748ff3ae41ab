use Rattle.std.proofs.Common.{take, ◌+◌}
use Rattle.go_selectors.proofs.Lists.{taken_next}
use Rattle.api_correspond.proofs.Growing.{of_none, of_more}
use Rattle.api_correspond.specs.inner.Leading.{IsExportedWith}
use Rattle.api_correspond.proofs.members.push_common_fields.Goals as goal

pub loop-field-init : goal.loop-field-init
loop-field-init c = of_none (IsExportedWith c.args.after.now) c.args.pairs.now.items

pub loop-field-preserved : goal.loop-field-preserved
loop-field-preserved c = of_more (IsExportedWith c.args.after.now) (take c.loop-field.field-index c.args.before.now) (take (c.loop-field.field-index + 1) c.args.before.now) c.field-item.result c.args.pairs.now.items c.loop-field.pairs.items c.push_exported.new.pairs.items (taken_next c.args.before.now c.loop-field.field-index c.field-item.result c.loop-field-test.true c.field-item.is) c.loop-field.invariant c.in_ok-push_exported.ensures
