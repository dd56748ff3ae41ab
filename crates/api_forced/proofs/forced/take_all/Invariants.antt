use Rattle.std.proofs.Common.{take}
use Rattle.api_forced.specs.inner.Claims.{TakesAll}
use Rattle.api_forced.proofs.forced.take_all.Given as goal

abbrev pub invariant-loop-claim : goal.invariant-loop-claim
invariant-loop-claim l = TakesAll l.texts.keys l.pairs.items (take l.claim-index l.items) l.all
