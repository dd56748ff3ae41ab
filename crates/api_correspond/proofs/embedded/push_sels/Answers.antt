use Rattle.std.proofs.Common.{take, ◌+◌}
use Rattle.go_selectors.proofs.Lists.{taken_next}
use Rattle.api_correspond.proofs.Growing.{of_none, of_more}
use Rattle.api_correspond.specs.inner.Spreading.{IsSelOf}
use Rattle.api_correspond.proofs.embedded.push_sels.Goals as goal

pub loop-field-init : goal.loop-field-init
loop-field-init c = of_none IsSelOf c.args.sels.now.items

pub loop-field-preserved : goal.loop-field-preserved
loop-field-preserved c = of_more IsSelOf (take c.loop-field.field-index c.args.fields.now) (take (c.loop-field.field-index + 1) c.args.fields.now) c.field-item.result c.args.sels.now.items c.loop-field.sels.items c.push_sel.new.sels.items (taken_next c.args.fields.now c.loop-field.field-index c.field-item.result c.loop-field-test.true c.field-item.is) c.loop-field.invariant c.in_ok-push_sel.ensures
