use Rattle.std.proofs.Common.{take}
use Rattle.go_base.specs.Growing.{Grows}
use Rattle.go_base.specs.Lists.{Has}
use Rattle.go_imports.specs.UsedImports.{IsTypeName}
use Rattle.go_imports.proofs.GrowingSets.{OfSome}
use Rattle.go_imports.proofs.used_imports.add_types.Given as goal

abbrev pub invariant-loop-spec : goal.invariant-loop-spec
invariant-loop-spec l = Grows (λ x. OfSome IsTypeName (take l.spec-index l.specs) x × Has l.asked.keys x) l.fn.set.keys l.set.keys
