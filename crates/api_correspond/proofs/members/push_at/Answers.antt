use Rattle.api_correspond.proofs.Leading.{at_none, at_pushed}
use Rattle.api_correspond.proofs.members.push_at.Goals as goal

pub returns-in-None : goal.returns-in-None
returns-in-None c = at_none c.args.field.now c.args.after.now c.args.at c.args.pairs.now.items c.in-None.ensures

pub returns-in_ok-push_types-in-Some : goal.returns-in_ok-push_types-in-Some
returns-in_ok-push_types-in-Some c = at_pushed c.args.field.now c.in-Some.other.now c.args.after.now c.args.at c.args.pairs.now.items c.push_types.new.pairs.items c.in-Some.ensures.0 c.in-Some.ensures.1 c.in_ok-push_types-in-Some.ensures
