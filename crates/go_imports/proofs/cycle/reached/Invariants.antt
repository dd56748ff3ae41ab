use Rattle.go_imports.specs.Orders.{needs_of}
use Rattle.go_imports.specs.inner.Levels.{at_level}
use Rattle.go_imports.proofs.Worklist.{Worked}
use Rattle.go_imports.proofs.cycle.reached.Given as goal

abbrev pub invariant-loop-at : goal.invariant-loop-at
invariant-loop-at l = Worked (λ m. at_level l.levels l.level (needs_of l.graph m)) (at_level l.levels l.level (needs_of l.graph l.from)) l.seen.keys l.at
