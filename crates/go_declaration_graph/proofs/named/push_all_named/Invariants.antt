use Rattle.std.proofs.Common.{◌≡◌, ◌++◌, drop}
use Rattle.go_base.specs.Gathered.{gather}
use Rattle.go_declaration_graph.specs.inner.NamedNumbers.{named}
use Rattle.go_declaration_graph.proofs.named.push_all_named.Given as goal

abbrev pub invariant-loop-reference : goal.invariant-loop-reference
invariant-loop-reference l = l.row ++ gather (named l.names) (drop l.reference-index l.references) ≡ l.initial.row ++ gather (named l.names) l.references
