use Rattle.std.proofs.Common.{◌≡◌, drop, nat_eq}
use Rattle.indexmap.specs.IndexSet.{insert_all}
use Rattle.go_imports.specs.inner.Levels.{at_level}
use Rattle.go_imports.proofs.cycle.add_all.Given as goal

abbrev pub invariant-loop-node : goal.invariant-loop-node
invariant-loop-node l = insert_all nat_eq l.seen.keys (at_level l.levels l.level (drop l.node-index l.nodes)) ≡ insert_all nat_eq l.fn.seen.keys (at_level l.levels l.level l.nodes)
