use Rattle.std.proofs.Common.{arith}
use Rattle.go_nodes.proofs.DistinctNames.{once_done, once_next, once_not}
use Rattle.go_nodes.proofs.distinct.are_once.Goals as goal

pub returns-then-not-branch : goal.returns-then-not-branch
returns-then-not-branch c = once_not c.loop-name.seen.keys c.args.names.now c.loop-name.name-index c.loop-name.invariant c.name-item.result c.loop-name-test.true c.name-item.is c.add_new.new.names.keys c.in_ok-add_new.field-0 c.if-not-branch.true c.in_ok-add_new.ensures

pub loop-name-preserved : goal.loop-name-preserved
loop-name-preserved c = once_next c.loop-name.seen.keys c.args.names.now c.loop-name.name-index c.loop-name.invariant c.name-item.result c.loop-name-test.true c.name-item.is c.add_new.new.names.keys c.in_ok-add_new.field-0 c.if-not-branch.false c.in_ok-add_new.ensures

pub returns : goal.returns
returns c = once_done c.loop-name.seen.keys c.args.names.now c.loop-name.name-index c.loop-name.invariant (omega arith)
