use Rattle.go_literal_blocks.proofs.RisingBlocks.{scans_begin, scans_found, scans_next, scans_none}
use Rattle.std.proofs.Common.{arith}
use Rattle.go_literal_blocks.proofs.blocks.scanned.Goals as goal

pub loop-at-init : goal.loop-at-init
loop-at-init c = scans_begin c.args.blocks.now c.args.start

pub loop-at-preserved : goal.loop-at-preserved
loop-at-preserved c = scans_next c.args.blocks.now c.loop-at.at c.args.start c.index-blocks-at.result c.loop-at-test.true c.index-blocks-at.is c.loop-at.invariant c.if-found.false

pub returns-then-found : goal.returns-then-found
returns-then-found c = scans_found c.args.blocks.now c.loop-at.at c.args.start c.index-blocks-at.result c.loop-at-test.true c.index-blocks-at.is c.loop-at.invariant c.if-found.true

pub returns : goal.returns
returns c = scans_none c.args.blocks.now c.loop-at.at c.args.start c.loop-at-test.false c.loop-at.invariant
