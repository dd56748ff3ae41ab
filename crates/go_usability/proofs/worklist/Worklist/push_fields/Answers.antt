use Rattle.std.proofs.Common.{take}
use Rattle.go_types.proofs.go_selectors_proofs.Lists.{taken_next}
use Rattle.go_types.proofs.Walks.{field_more}
use Rattle.go_usability.proofs.worklist.Worklist.push_fields.Goals as goal

pub loop-field-preserved : goal.loop-field-preserved
loop-field-preserved c = field_more _ c.loop-field.self.all.items c.push.new.self.all.items _ c.loop-field.self.seen.keys c.push.new.self.seen.keys (take c.loop-field.field-index c.args.fields.now) _ c.field-item.result (taken_next c.args.fields.now c.loop-field.field-index c.field-item.result c.loop-field-test.true c.field-item.is) c.loop-field.invariant c.in_ok-push.ensures
