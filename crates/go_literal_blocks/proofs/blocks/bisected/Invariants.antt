use Rattle.std.proofs.Common.{◌-◌}
use Rattle.go_literal_blocks.proofs.RisingBlocks.{Narrowed}
use Rattle.go_literal_blocks.proofs.blocks.bisected.Given as goal

abbrev pub invariant-loop-low : goal.invariant-loop-low
invariant-loop-low l = Narrowed l.blocks l.start l.low l.high

abbrev pub decreases-loop-low : goal.decreases-loop-low
decreases-loop-low l = l.high - l.low
