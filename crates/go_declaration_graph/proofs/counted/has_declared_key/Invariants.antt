use Rattle.std.proofs.Common.{◌≡◌, drop}
use Rattle.std.specs.List.{list_any}
use Rattle.go_declaration_graph.specs.inner.NamedNumbers.{is_declared_key}
use Rattle.go_declaration_graph.proofs.counted.has_declared_key.Given as goal

abbrev pub invariant-loop-reference : goal.invariant-loop-reference
invariant-loop-reference l = list_any (is_declared_key l.names) l.references ≡ list_any (is_declared_key l.names) (drop l.reference-index l.references)
