use Rattle.api_forced.proofs.Taking.{takes_no_owner, takes_no_pair, takes_one}
use Rattle.api_forced.proofs.forced.take.Goals as goal

pub returns-in-None : goal.returns-in-None
returns-in-None c = takes_no_owner c.args.texts.now.keys c.args.pairs.now.items c.args.claim.now c.args.all.now c.in-None.ensures

pub returns-in-None-pair_at : goal.returns-in-None-pair_at
returns-in-None-pair_at c = takes_no_pair c.args.texts.now.keys c.args.pairs.now.items c.args.claim.now c.args.all.now c.in-None-pair_at.ensures

pub returns-in_ok-push_owned-in-Some-pair_at : goal.returns-in_ok-push_owned-in-Some-pair_at
returns-in_ok-push_owned-in-Some-pair_at c = takes_one c.args.texts.now.keys c.args.pairs.now.items c.args.claim.now c.args.all.now c.push_owned.new.all c.in-Some.owner.now c.in-Some-pair_at.pair.now c.in-Some.ensures.0 c.in-Some.ensures.1 c.in-Some-pair_at.ensures.0 c.in-Some-pair_at.ensures.1 c.in_ok-push_owned-in-Some-pair_at.ensures
