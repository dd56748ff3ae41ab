use Rattle.std.proofs.Common.{take}
use Rattle.go_base.specs.Lists.{Before, Each}
use Rattle.worlds.proofs.order.comes_first.Given as goal

abbrev pub invariant-loop-item : goal.invariant-loop-item
invariant-loop-item g l = Each (λ k. Before l.name (g.K.Keyed.key k)) (take l.item-index l.items)
