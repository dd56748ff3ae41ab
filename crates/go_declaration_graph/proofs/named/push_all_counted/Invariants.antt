use Rattle.std.proofs.Common.{◌≡◌, ◌++◌, drop}
use Rattle.go_base.specs.Gathered.{gather}
use Rattle.go_declaration_graph.specs.inner.NamedNumbers.{counted}
use Rattle.go_declaration_graph.proofs.named.push_all_counted.Given as goal

abbrev pub invariant-loop-reference : goal.invariant-loop-reference
invariant-loop-reference l = l.row ++ gather (counted l.names l.keys.keys) (drop l.reference-index l.references) ≡ l.initial.row ++ gather (counted l.names l.keys.keys) l.references
