use Rattle.std.proofs.Common.{take}
use Rattle.api_further_breaks.specs.inner.Losses.{AreLosses}
use Rattle.api_further_breaks.proofs.losses.all_losses.Given as goal

abbrev pub invariant-loop-pair : goal.invariant-loop-pair
invariant-loop-pair l = AreLosses l.old l.new (take l.pair-index l.pairs) l.all.items
