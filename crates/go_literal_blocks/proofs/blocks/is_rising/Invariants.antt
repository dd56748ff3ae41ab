use Rattle.std.proofs.Common.{◌≤◌, ◌^◌}
use Rattle.go_literal_blocks.proofs.RisingBlocks.{RisesTo}
use Rattle.go_literal_blocks.proofs.blocks.is_rising.Given as goal

abbrev pub invariant-loop-block : goal.invariant-loop-block
invariant-loop-block l = record {
  risen : RisesTo l.blocks l.block-index l.first;
  fits : l.first ≤ 2 ^ 32;
}
