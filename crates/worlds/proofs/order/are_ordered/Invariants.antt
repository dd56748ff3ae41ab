use Rattle.std.proofs.Common.{drop, map}
use Rattle.go_model.specs.types.Members.{AreOrdered}
use Rattle.worlds.proofs.order.are_ordered.Given as goal

abbrev pub invariant-loop-at : goal.invariant-loop-at
invariant-loop-at g l = AreOrdered (map g.M.Selected.sel (drop l.at l.methods)) → AreOrdered (map g.M.Selected.sel l.methods)
