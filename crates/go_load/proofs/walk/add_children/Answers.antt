use Rattle.go_load.specs.inner.Steps.{IsSubOf}
use Rattle.go_load.proofs.Members.{grows_next}
use Rattle.go_load.proofs.walk.add_children.Goals as goal

pub loop-entry-preserved : goal.loop-entry-preserved
loop-entry-preserved c = grows_next (IsSubOf c.args.folder.now c.args.files.now.keys) c.args.entries.now c.loop-entry.entry-index c.entry-item.result _ _ _ c.loop-entry-test.true c.entry-item.is c.loop-entry.invariant c.in_ok-add_child.ensures
