use Rattle.go_graphs.specs.inner.Marking.{Follows}
use Rattle.go_graphs.proofs.marking.apply_hinted.Given as goal

abbrev pub invariant-loop-hint : goal.invariant-loop-hint
invariant-loop-hint g l = Follows g.R.Rule.why l.rows l.initial.flags l.flags
