use Rattle.go_graphs.specs.inner.Components.{TurnsRound}
use Rattle.go_graphs.proofs.rows.reversed.Given as goal

abbrev pub invariant-loop-number : goal.invariant-loop-number
invariant-loop-number l = TurnsRound l.rows l.turned.items
