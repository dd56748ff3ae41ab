use Rattle.std.proofs.Common.{ℕ, ◌≤◌, ◌<◌, get_or}
use Rattle.go_base.specs.Lists.{Has}
use Rattle.go_imports.specs.Orders.{needs_of}
use Rattle.go_imports.proofs.cycle.falls.Given as goal

abbrev pub invariant-loop-node : goal.invariant-loop-node
invariant-loop-node l = (m : ℕ) → m < l.node → (n : ℕ) → Has (needs_of l.graph m) n → get_or l.levels n 0 ≤ get_or l.levels m 0
