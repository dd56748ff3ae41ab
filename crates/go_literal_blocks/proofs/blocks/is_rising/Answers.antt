use Rattle.go_literal_blocks.proofs.RisingBlocks.{rises_all, rises_begin, rises_next}
use Rattle.std.proofs.Common.{arith, refl}
use Rattle.std.proofs.lemmas.List.{take_all}
use Rattle.go_literal_blocks.proofs.blocks.is_rising.Goals as goal

pub loop-block-init : goal.loop-block-init
loop-block-init c = record { risen = rises_begin c.args.blocks.now; fits = omega arith }

pub loop-block-preserved : goal.loop-block-preserved
loop-block-preserved c =
    let x = c.block-item.result in
    record {
      risen = rises_next c.args.blocks.now c.loop-block.block-index c.loop-block.first _ x c.loop-block-test.true c.block-item.is (omega (arith, c.if-start-first.false)) refl c.loop-block.invariant.risen;
      fits = omega arith;
    }

pub returns : goal.returns
returns c = λ e. rises_all c.args.blocks.now c.loop-block.block-index c.loop-block.first (take_all c.loop-block.block-index c.args.blocks.now c.loop-block-test.false) c.loop-block.invariant.risen
