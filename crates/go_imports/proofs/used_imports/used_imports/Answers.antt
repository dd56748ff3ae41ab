use Rattle.std.proofs.Common.{arith}
use Rattle.go_imports.proofs.Uses.{using_first, using_next, using_all}
use Rattle.go_imports.proofs.used_imports.used_imports.Goals as goal

pub loop-import-init : goal.loop-import-init
loop-import-init c = using_first c.args.imports.now c.args.qualifiers.now.keys c.in_ok-taken.taken.keys c.new-uses.result c.new-uses.ensures c.in_ok-taken.ensures

pub loop-import-preserved : goal.loop-import-preserved
loop-import-preserved c =
    using_next c.args.imports.now c.args.qualifiers.now.keys c.loop-import.import-index c.import-item.result c.loop-import.taken.keys c.use_of.new.taken.keys c.loop-import.uses c.add_use.new.uses c.in_ok-found.found
    c.loop-import-test.true c.import-item.is c.loop-import.invariant c.in_ok-found.ensures c.in_ok-add_use.ensures

pub returns : goal.returns
returns c = using_all c.args.imports.now c.args.qualifiers.now.keys c.loop-import.import-index c.loop-import.taken.keys c.loop-import.uses (omega arith) c.loop-import.invariant
