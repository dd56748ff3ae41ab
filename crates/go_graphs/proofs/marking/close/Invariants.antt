use Rattle.go_graphs.specs.inner.Marking.{Follows, unflagged}
use Rattle.go_graphs.proofs.marking.close.Given as goal

abbrev pub invariant-passes : goal.invariant-passes
invariant-passes g l = Follows g.R.Rule.why l.rows l.fn.flags l.flags

abbrev pub decreases-passes : goal.decreases-passes
decreases-passes g l = unflagged l.flags
