use Rattle.go_graphs.specs.inner.Marking.{Follows, Passed}
use Rattle.go_graphs.proofs.marking.apply_each.Given as goal

abbrev pub invariant-loop-number : goal.invariant-loop-number
invariant-loop-number g l = record { follows : Follows g.R.Rule.why l.rows l.initial.flags l.flags; passed : Passed g.R.Rule.why l.rows l.initial.flags l.number l.flags l.moved }
