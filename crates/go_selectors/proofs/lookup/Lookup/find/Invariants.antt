use Rattle.go_model.specs.types.Selectors.{start}
use Rattle.go_selectors.proofs.Searching.{Searching}
use Rattle.go_selectors.proofs.lookup.Lookup.find.Given as goal

abbrev pub invariant-loop-depth : goal.invariant-loop-depth
invariant-loop-depth g l = Searching (g.T.TypeTable.lookup l.self.table.now) l.sel (start (g.T.TypeTable.lookup l.self.table.now) l.term) l.depth l.layer.items l.seen.once.keys l.seen.twice.keys
