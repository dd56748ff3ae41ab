use Rattle.std.proofs.Common.{take}
use Rattle.go_base.specs.Growing.{Grows}
use Rattle.api_further_breaks.specs.inner.Losses.{AreOfClaims}
use Rattle.api_further_breaks.proofs.breaks.push_claims.Given as goal

abbrev pub invariant-loop-claim : goal.invariant-loop-claim
invariant-loop-claim l = Grows (AreOfClaims l.owners.keys l.losses.items (take l.claim-index l.items)) l.fn.breaks.items l.breaks.items
