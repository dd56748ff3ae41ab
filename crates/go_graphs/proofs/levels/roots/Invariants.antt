use Rattle.go_graphs.specs.inner.Components.{AreRoots}
use Rattle.go_graphs.proofs.levels.roots.Given as goal

abbrev pub invariant-loop-root : goal.invariant-loop-root
invariant-loop-root l = AreRoots l.rows l.levels l.by_level l.roots.items
