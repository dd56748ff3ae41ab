use Rattle.std.proofs.Common.{◌≡◌, ◌++◌, drop}
use Rattle.go_declaration_graph.specs.inner.Reaching.{numbers_in}
use Rattle.go_declaration_graph.proofs.order.numbers_in.Given as goal

abbrev pub invariant-loop-row : goal.invariant-loop-row
invariant-loop-row l = l.numbers.items ++ numbers_in (drop l.row-index l.rows) ≡ numbers_in l.rows
