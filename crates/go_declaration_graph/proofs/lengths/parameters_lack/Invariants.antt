use Rattle.std.proofs.Common.{◌≡◌, Bool, map, drop}
use Rattle.go_references.specs.References.{in_lengths, joined, parameter_refs}
use Rattle.go_declaration_graph.specs.inner.Lengths.{outside}
use Rattle.go_declaration_graph.proofs.lengths.parameters_lack.Given as goal

abbrev pub invariant-loop-parameter : goal.invariant-loop-parameter
invariant-loop-parameter l = (b : Bool) → in_lengths (joined (map parameter_refs l.parameters) (outside b)) ≡ in_lengths (joined (map parameter_refs (drop l.parameter-index l.parameters)) (outside b))
