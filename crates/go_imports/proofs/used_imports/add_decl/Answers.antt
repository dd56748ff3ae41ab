use Rattle.std.proofs.Common.{List, subst, sym}
use Rattle.std.specs.Result.{OnOk}
use Rattle.go_base.specs.Growing.{Grows}
use Rattle.go_base.specs.Lists.{Has}
use Rattle.go_references.specs.go_syntax.declared.declaration.Decl.{Decl}
use Rattle.go_references.specs.go_syntax.declared.declaration.TypeSpec.{TypeSpec}
use Rattle.go_imports.specs.UsedImports.{IsDeclaredBy}
use Rattle.go_imports.specs.inner.Uses.{IsTypeNameIn}
use Rattle.go_imports.proofs.used_imports.add_decl.Goals as goal

pub returns-in-TypeGroup : goal.returns-in-TypeGroup
returns-in-TypeGroup c =
    subst (λ (d : Decl). OnOk c.add_types.result (Grows (λ x. IsDeclaredBy d x × Has c.args.asked.now.keys x) c.args.set.now.keys c.add_types.new.set.keys)) (sym c.in-TypeGroup.is)
    (subst (λ (specs : List TypeSpec). OnOk c.add_types.result (Grows (λ x. IsTypeNameIn specs x × Has c.args.asked.now.keys x) c.args.set.now.keys c.add_types.new.set.keys)) c.items-in-TypeGroup.ensures c.add_types.ensures)
