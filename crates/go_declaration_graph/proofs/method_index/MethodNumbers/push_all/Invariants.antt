use Rattle.std.proofs.Common.{◌≡◌, drop}
use Rattle.go_declarations.specs.Listings.{declarations_of}
use Rattle.go_declaration_graph.specs.inner.MethodNumbers.{with_methods}
use Rattle.go_declaration_graph.proofs.method_index.MethodNumbers.push_all.Given as goal

abbrev pub invariant-loop-row : goal.invariant-loop-row
invariant-loop-row l = with_methods (declarations_of l.declarations) l.self (drop l.row-index l.rows) ≡ with_methods (declarations_of l.declarations) l.initial.self l.rows
