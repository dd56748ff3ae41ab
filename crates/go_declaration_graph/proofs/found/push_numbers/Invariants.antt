use Rattle.std.proofs.Common.{◌≡◌, ◌++◌, drop}
use Rattle.go_declaration_graph.proofs.found.push_numbers.Given as goal

abbrev pub invariant-loop-number : goal.invariant-loop-number
invariant-loop-number l = l.row ++ drop l.number-index l.numbers ≡ l.initial.row ++ l.numbers
