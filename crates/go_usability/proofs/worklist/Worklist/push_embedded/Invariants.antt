use Rattle.std.proofs.Common.{take}
use Rattle.go_base.specs.Gathered.{gather}
use Rattle.go_usability.specs.inner.Levels.{embedded, PushesAll}
use Rattle.go_usability.proofs.worklist.Worklist.push_embedded.Given as goal

abbrev pub invariant-loop-field : goal.invariant-loop-field
invariant-loop-field l = PushesAll l.fn.self.all.items l.fn.self.seen.keys l.self.all.items l.self.seen.keys (gather embedded (take l.field-index l.fields))
