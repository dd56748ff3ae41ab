use Rattle.api_correspond.proofs.Spreading.{push_as}
use Rattle.api_correspond.proofs.embedded.push.Goals as goal

pub returns : goal.returns
returns c = push_as c.args.all.now.items c.push.new.self.items c.args.seen.now.keys c.sees.new.seen.keys c.args.term.now c.new.result c.in_ok-sees.field-0 c.in_ok-push.ensures.items c.new.ensures c.if-branch.false c.in_ok-sees.ensures
