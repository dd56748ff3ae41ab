use Rattle.go_imports.specs.UsedImports.{IsQualifier}
use Rattle.go_imports.proofs.GrowingSets.{grows_next}
use Rattle.go_imports.proofs.used_imports.add_references.Goals as goal

pub loop-reference-preserved : goal.loop-reference-preserved
loop-reference-preserved c =
    grows_next (IsQualifier c.args.declared.now.keys) c.args.references.now c.loop-reference.reference-index c.reference-item.result _ c.loop-reference.set.keys c.add_reference.new.set.keys
    c.loop-reference-test.true c.reference-item.is c.loop-reference.invariant c.in_ok-add_reference.ensures
