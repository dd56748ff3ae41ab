use Rattle.std.proofs.Common.{◌≡◌, ◌++◌, drop, map}
use Rattle.go_declaration_graph.specs.inner.NamedNumbers.{number_of}
use Rattle.go_declaration_graph.proofs.named.push_rows.Given as goal

abbrev pub invariant-loop-method : goal.invariant-loop-method
invariant-loop-method l = l.row ++ map number_of (drop l.method-index l.methods) ≡ l.initial.row ++ map number_of l.methods
