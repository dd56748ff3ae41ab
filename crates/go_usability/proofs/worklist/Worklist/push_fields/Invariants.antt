use Rattle.std.proofs.Common.{take}
use Rattle.go_types.specs.Parts.{PushesFields}
use Rattle.go_usability.proofs.worklist.Worklist.push_fields.Given as goal

abbrev pub invariant-loop-field : goal.invariant-loop-field
invariant-loop-field l = PushesFields l.fn.self.all.items l.fn.self.seen.keys l.self.all.items l.self.seen.keys (take l.field-index l.fields)
