use Rattle.std.proofs.Common.{◌≡◌, take}
use Rattle.go_references.specs.References.{names}
use Rattle.go_references.proofs.references.decl_refs.Given as goal

abbrev pub invariant-loop-reference : goal.invariant-loop-reference
invariant-loop-reference l = l.names ≡ names (take l.reference-index l.reference-items)
