use Rattle.api_forced.proofs.Claiming.{follow_none, follow_some}
use Rattle.api_forced.proofs.claims.follow.Goals as goal

pub returns-in-None : goal.returns-in-None
returns-in-None c = follow_none c.args.own.now.items c.args.next.now.items c.args.claim c.args.claims.now.keys c.in-None.ensures

pub returns-in_ok-add_all-in-Some : goal.returns-in_ok-add_all-in-Some
returns-in_ok-add_all-in-Some c = follow_some c.args.own.now.items c.args.next.now.items c.args.claim c.in-Some.numbers.now c.items.result.now c.args.claims.now.keys c.add_all.new.claims.keys c.in-Some.ensures.0 c.in-Some.ensures.1 c.items.ensures c.in_ok-add_all-in-Some.ensures
