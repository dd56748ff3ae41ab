use Rattle.go_load.specs.Names.{go_mod}
use Rattle.go_load.specs.inner.Steps.{file_entry}
use Rattle.go_load.proofs.Members.{has_item, has_no_more}
use Rattle.go_load.proofs.walk.has_go_mod.Goals as goal

pub returns-then-is_go_mod-clause-yes : goal.returns-then-is_go_mod-clause-yes
returns-then-is_go_mod-clause-yes c = λ t. has_item c.args.entries.now c.loop-entry.entry-index c.entry-item.result (file_entry go_mod) c.loop-entry-test.true c.entry-item.is (c.is_go_mod.ensures.yes c.if-is_go_mod.true)

pub loop-entry-preserved : goal.loop-entry-preserved
loop-entry-preserved c = has_no_more c.args.entries.now c.loop-entry.entry-index c.entry-item.result (file_entry go_mod) c.loop-entry-test.true c.entry-item.is c.loop-entry.invariant (c.is_go_mod.ensures.no c.if-is_go_mod.false)
