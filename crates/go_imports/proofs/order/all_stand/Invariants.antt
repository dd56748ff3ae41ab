use Rattle.std.proofs.Common.{ℕ, ◌<◌}
use Rattle.go_base.specs.Lists.{Has}
use Rattle.go_imports.proofs.order.all_stand.Given as goal

abbrev pub invariant-loop-node : goal.invariant-loop-node
invariant-loop-node l = (m : ℕ) → m < l.node → Has l.standing.keys m
