use Rattle.std.proofs.Common.{List, ℕ, [], take}
use Rattle.go_base.specs.Growing.{Grows}
use Rattle.go_imports.proofs.GrowingSets.{OfSome}
use Rattle.go_units.specs.UndeclaredUses.{IsUseName}
use Rattle.go_units.specs.declared.package_uses.PackageFile.{PackageFile}
use Rattle.go_units.proofs.undeclared_uses.use_names.Given as goal

abbrev pub invariant-loop-file : goal.invariant-loop-file
invariant-loop-file l = Grows (OfSome (λ (f : PackageFile). IsUseName f.uses) (take l.file-index l.files)) [] l.names.keys
