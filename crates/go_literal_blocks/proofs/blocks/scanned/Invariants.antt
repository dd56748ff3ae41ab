use Rattle.std.proofs.Common.{drop}
use Rattle.go_literal_blocks.proofs.RisingBlocks.{ScansOn}
use Rattle.go_literal_blocks.proofs.blocks.scanned.Given as goal

abbrev pub invariant-loop-at : goal.invariant-loop-at
invariant-loop-at l = ScansOn l.blocks (drop l.at l.blocks) l.start
