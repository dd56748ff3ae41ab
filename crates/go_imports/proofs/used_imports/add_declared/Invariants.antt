use Rattle.std.proofs.Common.{take}
use Rattle.go_base.specs.Growing.{Grows}
use Rattle.go_base.specs.Lists.{Has}
use Rattle.go_imports.specs.UsedImports.{IsDeclaredBy}
use Rattle.go_imports.proofs.GrowingSets.{OfSome}
use Rattle.go_imports.proofs.used_imports.add_declared.Given as goal

abbrev pub invariant-loop-decl : goal.invariant-loop-decl
invariant-loop-decl l = Grows (λ x. OfSome IsDeclaredBy (take l.decl-index l.decls) x × Has l.asked.keys x) l.fn.declared.keys l.declared.keys
