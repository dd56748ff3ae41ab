use Rattle.go_selectors.proofs.Counting.{Counted}
use Rattle.go_selectors.proofs.candidates.count.Given as goal

abbrev pub invariant-loop-depth : goal.invariant-loop-depth
invariant-loop-depth g l = Counted (g.T.TypeTable.lookup l.types.table.now) l.term l.depth l.layer.items l.seen.once.keys l.seen.twice.keys l.candidates
