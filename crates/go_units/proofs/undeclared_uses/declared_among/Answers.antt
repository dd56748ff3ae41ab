use Rattle.std.proofs.Common.{List, ap, subst, ◌∙◌}
use Rattle.go_base.specs.Growing.{Grows}
use Rattle.go_base.specs.Lists.{Has}
use Rattle.go_imports.specs.go_syntax.declared.declaration.Decl.{Decl}
use Rattle.go_imports.specs.go_syntax.declared.declaration.File.{File}
use Rattle.go_imports.specs.UsedImports.{IsDeclaredIn}
use Rattle.go_imports.proofs.GrowingSets.{grows_next_where}
use Rattle.go_units.specs.declared.package_uses.PackageFile.{PackageFile}
use Rattle.go_units.proofs.undeclared_uses.declared_among.Goals as goal

pub loop-file-preserved : goal.loop-file-preserved
loop-file-preserved c =
    grows_next_where (λ (f : PackageFile). IsDeclaredIn f.outline.decls) (Has c.args.asked.now.keys) c.args.files.now c.loop-file.file-index c.file-item.result _ c.loop-file.declared.keys c.add_declared.new.declared.keys
    c.loop-file-test.true c.file-item.is c.loop-file.invariant
    (subst (λ (decls : List Decl). Grows (λ x. IsDeclaredIn decls x × Has c.args.asked.now.keys x) c.loop-file.declared.keys c.add_declared.new.declared.keys) (c.items.ensures ∙ ap (λ (f : File). f.decls) c.value.ensures) c.in_ok-add_declared.ensures)
