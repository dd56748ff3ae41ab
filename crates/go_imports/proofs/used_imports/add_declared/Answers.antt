use Rattle.go_base.specs.Lists.{Has}
use Rattle.go_imports.specs.UsedImports.{IsDeclaredBy}
use Rattle.go_imports.proofs.GrowingSets.{grows_next_where}
use Rattle.go_imports.proofs.used_imports.add_declared.Goals as goal

pub loop-decl-preserved : goal.loop-decl-preserved
loop-decl-preserved c =
    grows_next_where IsDeclaredBy (Has c.args.asked.now.keys) c.args.decls.now c.loop-decl.decl-index c.decl-item.result _ c.loop-decl.declared.keys c.add_decl.new.set.keys
    c.loop-decl-test.true c.decl-item.is c.loop-decl.invariant c.in_ok-add_decl.ensures
