use Rattle.std.proofs.Common.{take}
use Rattle.go_selectors.proofs.Lists.{taken_next}
use Rattle.api_correspond.proofs.Spreading.{none_embedded, embedded_more}
use Rattle.api_correspond.proofs.embedded.push_embedded.Goals as goal

pub loop-field-init : goal.loop-field-init
loop-field-init c = none_embedded c.args.all.now.items c.args.seen.now.keys

pub loop-field-preserved : goal.loop-field-preserved
loop-field-preserved c = embedded_more _ c.loop-field.all.items c.push_one.new.all.items _ c.loop-field.seen.keys c.push_one.new.seen.keys (take c.loop-field.field-index c.args.fields.now) _ c.field-item.result (taken_next c.args.fields.now c.loop-field.field-index c.field-item.result c.loop-field-test.true c.field-item.is) c.loop-field.invariant c.in_ok-push_one.ensures
