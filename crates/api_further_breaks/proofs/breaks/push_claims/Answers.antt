use Rattle.std.proofs.Common.{take, ◌+◌, get_or}
use Rattle.std.proofs.lemmas.List.{take_more}
use Rattle.api_forced.proofs.Claiming.{no_claim}
use Rattle.api_correspond.proofs.Growing.{of_none, of_more}
use Rattle.api_further_breaks.specs.inner.Losses.{IsOfClaim}
use Rattle.api_further_breaks.proofs.AllBreaks.{claims_all}
use Rattle.api_further_breaks.proofs.breaks.push_claims.Goals as goal

pub loop-claim-init : goal.loop-claim-init
loop-claim-init c = of_none (IsOfClaim c.args.owners.now.keys c.args.losses.now.items) c.args.breaks.now.items

pub loop-claim-preserved : goal.loop-claim-preserved
loop-claim-preserved c = of_more (IsOfClaim c.args.owners.now.keys c.args.losses.now.items) (take c.loop-claim.claim-index c.as_slice-items.result.now) (take (c.loop-claim.claim-index + 1) c.as_slice-items.result.now) (get_or c.as_slice-items.result.now c.loop-claim.claim-index no_claim) c.args.breaks.now.items c.loop-claim.breaks.items c.push_claim.new.breaks.items (take_more c.as_slice-items.result.now c.loop-claim.claim-index no_claim c.loop-claim-test.true) c.loop-claim.invariant c.in_ok-push_claim.ensures

pub returns : goal.returns
returns c = claims_all c.args.owners.now.keys c.args.losses.now.items c.args.claims.now.keys c.as_slice-items.result.now c.loop-claim.claim-index c.args.breaks.now.items c.loop-claim.breaks.items c.as_slice-items.ensures.keys c.loop-claim-test.false c.loop-claim.invariant
