use Rattle.std.proofs.Common.{List, ℕ, [], take}
use Rattle.go_base.specs.Growing.{Grows}
use Rattle.go_base.specs.Lists.{Has}
use Rattle.go_imports.specs.UsedImports.{IsDeclaredIn}
use Rattle.go_imports.proofs.GrowingSets.{OfSome}
use Rattle.go_units.specs.declared.package_uses.PackageFile.{PackageFile}
use Rattle.go_units.proofs.undeclared_uses.declared_among.Given as goal

abbrev pub invariant-loop-file : goal.invariant-loop-file
invariant-loop-file l = Grows (λ x. OfSome (λ (f : PackageFile). IsDeclaredIn f.outline.decls) (take l.file-index l.files) x × Has l.asked.keys x) [] l.declared.keys
