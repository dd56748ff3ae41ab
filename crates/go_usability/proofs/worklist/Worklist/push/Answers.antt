use Rattle.go_types.proofs.Walks.{push_as}
use Rattle.go_usability.proofs.worklist.Worklist.push.Goals as goal

pub returns : goal.returns
returns c = push_as c.args.self.now.all.items c.push.new.self.items c.args.self.now.seen.keys c.sees.new.seen.keys c.args.term.now c.new.result c.in_ok-sees.field-0 c.in_ok-push.ensures.items c.new.ensures c.if-branch.false c.in_ok-sees.ensures
