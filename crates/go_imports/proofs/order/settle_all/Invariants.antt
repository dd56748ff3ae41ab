use Rattle.std.proofs.Common.{◌≤◌}
use Rattle.go_imports.specs.inner.Sorting.{Sorting}
use Rattle.go_imports.proofs.order.settle_all.Given as goal

abbrev pub invariant-loop-node : goal.invariant-loop-node
invariant-loop-node l = Sorting l.graph l.standing.keys l.ready.keys l.waits.items (λ n. l.node ≤ n)
