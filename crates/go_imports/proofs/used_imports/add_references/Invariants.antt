use Rattle.std.proofs.Common.{take}
use Rattle.go_base.specs.Growing.{Grows}
use Rattle.go_imports.specs.UsedImports.{IsQualifier}
use Rattle.go_imports.proofs.GrowingSets.{OfSome}
use Rattle.go_imports.proofs.used_imports.add_references.Given as goal

abbrev pub invariant-loop-reference : goal.invariant-loop-reference
invariant-loop-reference l = Grows (OfSome (IsQualifier l.declared.keys) (take l.reference-index l.references)) l.fn.set.keys l.set.keys
