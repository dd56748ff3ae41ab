use Rattle.std.proofs.Common.{◌≡◌, [], replicate}
use Rattle.go_declaration_graph.proofs.order.empty_rows.Given as goal

abbrev pub invariant-loop : goal.invariant-loop
invariant-loop l = l.rows.items ≡ replicate l.counter []
