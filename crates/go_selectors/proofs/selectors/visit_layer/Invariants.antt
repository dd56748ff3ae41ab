use Rattle.std.proofs.Common.{◌≡◌, ◌++◌, drop}
use Rattle.go_base.specs.Gathered.{gather}
use Rattle.go_model.specs.types.Selectors.{endings, steps}
use Rattle.go_selectors.specs.Endings.{endings_of}
use Rattle.go_selectors.proofs.selectors.visit_layer.Given as goal

abbrev pub invariant-loop-spot : goal.invariant-loop-spot
invariant-loop-spot g l = (endings_of l.found.items ++ gather (endings (g.T.TypeTable.lookup l.types.table.now) l.sel) (drop l.spot-index l.layer.items) ≡ endings_of l.fn.found.items ++ gather (endings (g.T.TypeTable.lookup l.types.table.now) l.sel) l.layer.items) × (l.all.items ++ gather (steps (g.T.TypeTable.lookup l.types.table.now)) (drop l.spot-index l.layer.items) ≡ l.fn.all.items ++ gather (steps (g.T.TypeTable.lookup l.types.table.now)) l.layer.items)
