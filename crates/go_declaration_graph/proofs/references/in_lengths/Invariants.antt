use Rattle.std.proofs.Common.{◌≡◌}
use Rattle.go_references.specs.References.{in_lengths}
use Rattle.go_declaration_graph.proofs.references.in_lengths.Given as goal

abbrev pub invariant-loop-reference : goal.invariant-loop-reference
invariant-loop-reference l = l.kept ≡ in_lengths l.yielded
