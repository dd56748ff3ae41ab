use Rattle.go_selectors.proofs.Noting.{puts_insert}
use Rattle.go_selectors.proofs.candidates.insert.Goals as goal

pub returns-clause-puts : goal.returns-clause-puts
returns-clause-puts c = puts_insert c.args.candidates.now c.insert.new.self c.args.sel c.args.candidate c.in_ok-before.ensures.updates
