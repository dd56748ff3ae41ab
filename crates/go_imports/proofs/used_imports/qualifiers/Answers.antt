use Rattle.go_imports.specs.UsedImports.{IsQualifierOf}
use Rattle.go_imports.proofs.GrowingSets.{grows_next}
use Rattle.go_imports.proofs.used_imports.qualifiers.Goals as goal

pub loop-decl-preserved : goal.loop-decl-preserved
loop-decl-preserved c =
    grows_next (IsQualifierOf c.args.declared.now.keys) c.args.decls.now c.loop-decl.decl-index c.decl-item.result _ c.loop-decl.set.keys c.add_qualifiers.new.set.keys
    c.loop-decl-test.true c.decl-item.is c.loop-decl.invariant c.in_ok-add_qualifiers.ensures
