use Rattle.std.proofs.Common.{drop, map}
use Rattle.go_base.specs.Lists.{Ascending}
use Rattle.worlds.proofs.order.ascend.Given as goal

abbrev pub invariant-loop-at : goal.invariant-loop-at
invariant-loop-at g l = Ascending (map g.K.Keyed.key (drop l.at l.items)) → Ascending (map g.K.Keyed.key l.items)
