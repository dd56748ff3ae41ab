use Rattle.go_literal_blocks.proofs.RisingBlocks.{narrowed_above, narrowed_begin, narrowed_below, narrowed_none, rising_found}
use Rattle.go_base.proofs.Ordered.{below_high}
use Rattle.std.proofs.Common.{◌+◌, ◌-◌, ◌/◌, refl, arith}
use Rattle.go_literal_blocks.proofs.blocks.bisected.Goals as goal

pub loop-low-init : goal.loop-low-init
loop-low-init c = narrowed_begin c.args.blocks.now c.args.start _ refl

pub returns-then-found : goal.returns-then-found
returns-then-found c =
    let below = below_high c.loop-low.low c.loop-low.high c.loop-low-test.true in
    rising_found c.args.blocks.now (c.loop-low.low + (c.loop-low.high - c.loop-low.low) / 2) c.args.start c.index-blocks-middle.result c.requires (omega (arith, below, c.loop-low.invariant.within)) c.index-blocks-middle.is c.if-found.true

pub loop-low-preserved-then-before : goal.loop-low-preserved-then-before
loop-low-preserved-then-before c =
    let below = below_high c.loop-low.low c.loop-low.high c.loop-low-test.true in
    narrowed_below c.args.blocks.now c.args.start c.loop-low.low c.loop-low.high (c.loop-low.low + (c.loop-low.high - c.loop-low.low) / 2) c.index-blocks-middle.result c.requires c.loop-low.invariant (omega (arith, below, c.loop-low.invariant.within)) c.index-blocks-middle.is c.if-before.true

pub loop-low-preserved : goal.loop-low-preserved
loop-low-preserved c =
    let below = below_high c.loop-low.low c.loop-low.high c.loop-low-test.true in
    narrowed_above c.args.blocks.now c.args.start c.loop-low.low c.loop-low.high (c.loop-low.low + (c.loop-low.high - c.loop-low.low) / 2) c.index-blocks-middle.result c.requires c.loop-low.invariant (omega (arith, below, c.loop-low.invariant.within)) c.index-blocks-middle.is (omega (arith, c.if-found.false, c.if-before.false))

pub returns : goal.returns
returns c = narrowed_none c.args.blocks.now c.args.start c.loop-low.low c.loop-low.high c.loop-low-test.false c.loop-low.invariant
