use Rattle.std.proofs.Common.{take}
use Rattle.go_types.proofs.go_selectors_proofs.Lists.{taken_next}
use Rattle.go_usability.proofs.Walked.{gathered_more}
use Rattle.go_usability.specs.inner.Levels.{embedded}
use Rattle.go_usability.proofs.worklist.Worklist.push_embedded.Goals as goal

pub loop-field-preserved : goal.loop-field-preserved
loop-field-preserved c = gathered_more embedded _ c.loop-field.self.all.items c.push_one.new.self.all.items _ c.loop-field.self.seen.keys c.push_one.new.self.seen.keys (take c.loop-field.field-index c.args.fields.now) _ c.field-item.result (taken_next c.args.fields.now c.loop-field.field-index c.field-item.result c.loop-field-test.true c.field-item.is) c.loop-field.invariant c.in_ok-push_one.ensures
