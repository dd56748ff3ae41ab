use Rattle.go_imports.specs.inner.Sorting.{Sorting}
use Rattle.go_imports.proofs.order.stand_all.Given as goal

abbrev pub invariant-loop : goal.invariant-loop
invariant-loop l = Sorting l.graph l.standing.keys l.ready.keys l.waits.items (λ n. ⊥)
