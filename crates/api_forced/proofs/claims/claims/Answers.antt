use Rattle.api_forced.proofs.Claiming.{claiming_begun, claiming_more, claiming_all}
use Rattle.api_correspond.proofs.Places.{at_get}
use Rattle.api_forced.proofs.claims.claims.Goals as goal

pub loop-at-init : goal.loop-at-init
loop-at-init c = claiming_begun c.args.own.now.items c.args.next.now.items c.args.roots.now.items c.new-claims.result.keys c.add_roots.new.claims.keys c.new-claims.ensures.empty c.in_ok-add_roots.ensures

pub returns-in-None : goal.returns-in-None
returns-in-None c = claiming_all c.args.own.now.items c.args.next.now.items c.args.roots.now.items c.loop-at.at c.loop-at.claims.keys c.loop-at.invariant c.in-None.ensures

pub loop-at-preserved : goal.loop-at-preserved
loop-at-preserved c = claiming_more c.args.own.now.items c.args.next.now.items c.args.roots.now.items c.loop-at.at c.loop-at.claims.keys c.follow.new.claims.keys c.in-Some.claim c.loop-at.invariant (at_get c.loop-at.claims.keys c.loop-at.at c.in-Some.claim c.in-Some.ensures.0 c.in-Some.ensures.1) c.in_ok-follow-in-Some.ensures
