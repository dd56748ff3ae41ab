use Rattle.go_types.proofs.Walks.{Walks}
use Rattle.go_types.proofs.comparison.decide.Given as goal

abbrev pub invariant-loop-at : goal.invariant-loop-at
invariant-loop-at g l = Walks (g.T.TypeTable.lookup l.types.table.now) l.term l.at l.all.items l.seen.keys
