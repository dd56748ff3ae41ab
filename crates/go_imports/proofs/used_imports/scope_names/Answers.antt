use Rattle.go_imports.specs.UsedImports.{IsScopeName}
use Rattle.go_imports.proofs.GrowingSets.{grows_next}
use Rattle.go_imports.proofs.used_imports.scope_names.Goals as goal

pub loop-import-preserved : goal.loop-import-preserved
loop-import-preserved c =
    grows_next (IsScopeName) c.args.imports.now c.loop-import.import-index c.import-item.result _ c.loop-import.set.keys c.add_scope_name.new.set.keys
    c.loop-import-test.true c.import-item.is c.loop-import.invariant c.in_ok-add_scope_name.ensures
