use Rattle.std.proofs.Common.{List, subst}
use Rattle.go_base.specs.Growing.{Grows}
use Rattle.go_imports.specs.declared.used_imports.NamedImport.{NamedImport}
use Rattle.go_imports.proofs.GrowingSets.{grows_next}
use Rattle.go_units.specs.UndeclaredUses.{IsUseName}
use Rattle.go_units.specs.declared.package_uses.PackageFile.{PackageFile}
use Rattle.go_units.proofs.undeclared_uses.use_names.Goals as goal

pub loop-file-preserved : goal.loop-file-preserved
loop-file-preserved c =
    grows_next (λ (f : PackageFile). IsUseName f.uses) c.args.files.now c.loop-file.file-index c.file-item.result _ c.loop-file.names.keys c.add_use_names.new.names.keys
    c.loop-file-test.true c.file-item.is c.loop-file.invariant
    (subst (λ (uses : List NamedImport). Grows (IsUseName uses) c.loop-file.names.keys c.add_use_names.new.names.keys) c.items.ensures c.in_ok-add_use_names.ensures)
