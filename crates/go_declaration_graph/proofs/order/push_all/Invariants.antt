use Rattle.std.proofs.Common.{◌≡◌, ◌++◌, drop}
use Rattle.go_declaration_graph.proofs.order.push_all.Given as goal

abbrev pub invariant-loop-number : goal.invariant-loop-number
invariant-loop-number l = l.pending.items ++ drop l.number-index l.numbers ≡ l.initial.pending.items ++ l.numbers
