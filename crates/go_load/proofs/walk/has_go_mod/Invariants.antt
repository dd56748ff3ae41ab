use Rattle.std.proofs.Common.{take}
use Rattle.go_base.specs.Lists.{Has}
use Rattle.go_load.specs.Names.{go_mod}
use Rattle.go_load.specs.inner.Steps.{file_entry}
use Rattle.go_load.proofs.walk.has_go_mod.Given as goal

abbrev pub invariant-loop-entry : goal.invariant-loop-entry
invariant-loop-entry l = Has (take l.entry-index l.entries) (file_entry go_mod) → ⊥
