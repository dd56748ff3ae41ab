use Rattle.std.proofs.Common.{◌≡◌, ◌++◌, take, drop}
use Rattle.go_base.specs.Gathered.{gather}
use Rattle.go_model.specs.types.Selectors.{endings, steps}
use Rattle.go_selectors.specs.Candidates.{Notes}
use Rattle.go_selectors.proofs.candidates.note_layer.Given as goal

abbrev pub invariant-loop-spot : goal.invariant-loop-spot
invariant-loop-spot g l = Notes l.depth l.fn.candidates l.candidates (λ s. gather (endings (g.T.TypeTable.lookup l.types.table.now) s) (take l.spot-index l.layer.items)) × (l.all.items ++ gather (steps (g.T.TypeTable.lookup l.types.table.now)) (drop l.spot-index l.layer.items) ≡ l.fn.all.items ++ gather (steps (g.T.TypeTable.lookup l.types.table.now)) l.layer.items)
