use Rattle.std.proofs.Common.{[], take}
use Rattle.go_load.specs.inner.Steps.{IsName}
use Rattle.go_base.specs.Growing.{Grows}
use Rattle.go_load.proofs.walk.file_names.Given as goal

abbrev pub invariant-loop-entry : goal.invariant-loop-entry
invariant-loop-entry l = Grows (IsName l.wanted (take l.entry-index l.entries)) [] l.names.keys
