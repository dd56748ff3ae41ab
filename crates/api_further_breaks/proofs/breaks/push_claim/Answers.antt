use Rattle.api_further_breaks.proofs.AllBreaks.{claim_ownerless, claim_lossless, claim_lost}
use Rattle.api_further_breaks.proofs.breaks.push_claim.Goals as goal

pub returns-in-None : goal.returns-in-None
returns-in-None c = claim_ownerless c.args.owners.now.keys c.args.losses.now.items c.args.claim.now c.args.breaks.now.items c.in-None.ensures

pub returns-in-None-losses_at : goal.returns-in-None-losses_at
returns-in-None-losses_at c = claim_lossless c.args.owners.now.keys c.args.losses.now.items c.args.claim.now c.args.breaks.now.items c.in-None-losses_at.ensures

pub returns-in_ok-push_losses-in-Some-losses_at : goal.returns-in_ok-push_losses-in-Some-losses_at
returns-in_ok-push_losses-in-Some-losses_at c = claim_lost c.args.owners.now.keys c.args.losses.now.items c.args.claim.now c.args.breaks.now.items c.push_losses.new.breaks.items c.in-Some.owner.now c.in-Some-losses_at.list.now c.items.result.now c.in-Some.ensures.0 c.in-Some.ensures.1 c.in-Some-losses_at.ensures.0 c.in-Some-losses_at.ensures.1 c.items.ensures c.in_ok-push_losses-in-Some-losses_at.ensures
