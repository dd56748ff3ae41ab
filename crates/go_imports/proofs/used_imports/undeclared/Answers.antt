use Rattle.go_imports.proofs.UndeclaredUses.{undeclared_next}
use Rattle.go_imports.proofs.used_imports.undeclared.Goals as goal

pub loop-import-preserved : goal.loop-import-preserved
loop-import-preserved c =
    undeclared_next c.args.declared.now.keys c.args.uses.now c.loop-import.import-index c.import-item.result c.in_ok-found.found c.loop-import.left c.add_use.new.uses
    c.loop-import-test.true c.import-item.is c.loop-import.invariant c.in_ok-found.ensures c.in_ok-add_use.ensures
