use Rattle.std.proofs.Common.{drop}
use Rattle.go_imports.specs.inner.Sorting.{Sorting, IsWokenBy}
use Rattle.go_imports.proofs.order.wake.Given as goal

abbrev pub invariant-loop-wait : goal.invariant-loop-wait
invariant-loop-wait l = Sorting l.graph l.standing.keys l.ready.keys l.waits.items (IsWokenBy (drop l.wait-index l.woken))
