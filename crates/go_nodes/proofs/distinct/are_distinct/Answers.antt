use Rattle.std.proofs.Common.{arith}
use Rattle.go_nodes.proofs.DistinctNames.{distinct_done, distinct_next, distinct_not}
use Rattle.go_nodes.proofs.distinct.are_distinct.Goals as goal

pub returns-then-not-branch : goal.returns-then-not-branch
returns-then-not-branch c = distinct_not c.loop-name.seen.keys c.args.names.now c.loop-name.name-index c.loop-name.invariant c.name-item.result c.loop-name-test.true c.name-item.is c.is_first.new.names.keys c.in_ok-is_first.field-0 c.if-not-branch.true c.in_ok-is_first.ensures

pub loop-name-preserved : goal.loop-name-preserved
loop-name-preserved c = distinct_next c.loop-name.seen.keys c.args.names.now c.loop-name.name-index c.loop-name.invariant c.name-item.result c.loop-name-test.true c.name-item.is c.is_first.new.names.keys c.in_ok-is_first.field-0 c.if-not-branch.false c.in_ok-is_first.ensures

pub returns : goal.returns
returns c = distinct_done c.loop-name.seen.keys c.args.names.now c.loop-name.name-index c.loop-name.invariant (omega arith)
