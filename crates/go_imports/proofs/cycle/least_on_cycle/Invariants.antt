use Rattle.std.proofs.Common.{ℕ, ◌<◌}
use Rattle.go_imports.specs.Orders.{IsOnCycle}
use Rattle.go_imports.proofs.cycle.least_on_cycle.Given as goal

abbrev pub invariant-loop-node : goal.invariant-loop-node
invariant-loop-node l = (m : ℕ) → m < l.node → IsOnCycle l.graph m → ⊥
