use Rattle.std.proofs.Common.{arith}
use Rattle.go_nodes.proofs.EachItems.{each_done, each_next, each_not}
use Rattle.go_declaration_asks.specs.inner.Names.{IsFreeName}
use Rattle.go_declaration_asks.proofs.reserved.are_free.Goals as goal

pub returns-then-not-is_free : goal.returns-then-not-is_free
returns-then-not-is_free c = each_not (IsFreeName c.args.package_name.now) c.args.names.now c.loop-name.name-index c.name-item.result c.loop-name-test.true c.name-item.is c.loop-name.invariant c.is_free.result c.if-not-is_free.true c.is_free.ensures

pub loop-name-preserved : goal.loop-name-preserved
loop-name-preserved c = each_next (IsFreeName c.args.package_name.now) c.args.names.now c.loop-name.name-index c.name-item.result c.loop-name-test.true c.name-item.is c.loop-name.invariant c.is_free.result c.if-not-is_free.false c.is_free.ensures

pub returns : goal.returns
returns c = each_done (IsFreeName c.args.package_name.now) c.args.names.now c.loop-name.name-index (omega arith) c.loop-name.invariant
