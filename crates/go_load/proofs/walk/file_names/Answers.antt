use Rattle.go_load.specs.inner.Steps.{IsNameOf}
use Rattle.go_load.proofs.Members.{grows_next, ascending_of}
use Rattle.go_load.proofs.walk.file_names.Goals as goal

pub loop-entry-preserved : goal.loop-entry-preserved
loop-entry-preserved c = grows_next (IsNameOf c.args.wanted) c.args.entries.now c.loop-entry.entry-index c.entry-item.result _ _ _ c.loop-entry-test.true c.entry-item.is c.loop-entry.invariant c.in_ok-add_name.ensures

pub returns-clause-ascending : goal.returns-clause-ascending
returns-clause-ascending c = ascending_of c.loop-entry.names.keys c.len-count.ensures.ordered
