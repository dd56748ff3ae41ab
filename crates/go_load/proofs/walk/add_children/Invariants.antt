use Rattle.std.proofs.Common.{take}
use Rattle.go_load.specs.inner.Steps.{IsSub}
use Rattle.go_base.specs.Growing.{Grows}
use Rattle.go_load.proofs.walk.add_children.Given as goal

abbrev pub invariant-loop-entry : goal.invariant-loop-entry
invariant-loop-entry l = Grows (IsSub l.folder l.files.keys (take l.entry-index l.entries)) l.fn.pending.keys l.pending.keys
