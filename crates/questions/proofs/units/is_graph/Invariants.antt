use Rattle.std.proofs.Common.{ℕ, ◌<◌, length, get_or, []}
use Rattle.go_base.specs.Lists.{Has}
use Rattle.questions.proofs.units.is_graph.Given as goal

abbrev pub invariant-loop-node : goal.invariant-loop-node
invariant-loop-node l = (n m : ℕ) → n < l.node → Has (get_or l.graph n []) m → m < length l.graph
