use Rattle.go_elements.proofs.Asserting.{holds_decides, holds_interface}
use Rattle.go_type_terms.specs.Answers.{env_in}
use Rattle.go_clauses.proofs.guards.may_hold.Goals as goal

pub returns-then-is_interface : goal.returns-then-is_interface
returns-then-is_interface c = holds_interface (env_in c.args.context.now) c.args.interface.now c.args.term.now c.if-is_interface.ensures

pub returns : goal.returns
returns c = holds_decides (env_in c.args.context.now) c.args.interface.now c.args.term.now c.in_ok-answer.answer c.if-is_interface.ensures c.in_ok-answer.ensures
