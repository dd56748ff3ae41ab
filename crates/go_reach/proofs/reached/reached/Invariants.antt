use Rattle.go_reach.specs.inner.Search.{AreMet}
use Rattle.go_reach.proofs.reached.reached.Given as goal

abbrev pub invariant-loop : goal.invariant-loop
invariant-loop l = AreMet l.rows l.fn.flags.items l.flags.items l.pending.items
