use Rattle.std.proofs.Common.{take, ◌+◌, get_or}
use Rattle.std.proofs.lemmas.List.{take_more}
use Rattle.api_forced.proofs.Claiming.{no_claim}
use Rattle.api_forced.proofs.Taking.{takes_begun, takes_more, takes_done}
use Rattle.api_forced.proofs.forced.take_all.Goals as goal

pub loop-claim-init : goal.loop-claim-init
loop-claim-init c = takes_begun c.args.texts.now.keys c.args.pairs.now.items c.new-all.result c.new-all.ensures

pub loop-claim-preserved : goal.loop-claim-preserved
loop-claim-preserved c = takes_more c.args.texts.now.keys c.args.pairs.now.items (take c.loop-claim.claim-index c.as_slice-items.result.now) (take (c.loop-claim.claim-index + 1) c.as_slice-items.result.now) (get_or c.as_slice-items.result.now c.loop-claim.claim-index no_claim) c.loop-claim.all c.take.new.all (take_more c.as_slice-items.result.now c.loop-claim.claim-index no_claim c.loop-claim-test.true) c.loop-claim.invariant c.in_ok-take.ensures

pub returns : goal.returns
returns c = takes_done c.args.texts.now.keys c.args.pairs.now.items c.args.claims.now.keys c.as_slice-items.result.now c.loop-claim.claim-index c.loop-claim.all c.as_slice-items.ensures.keys c.loop-claim-test.false c.loop-claim.invariant
