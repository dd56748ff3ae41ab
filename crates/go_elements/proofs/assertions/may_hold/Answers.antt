use Rattle.go_rules.specs.Scopes.{env_of}
use Rattle.go_elements.proofs.Asserting.{holds_interface, holds_decides}
use Rattle.go_elements.proofs.assertions.may_hold.Goals as goal

pub returns-then-is_interface : goal.returns-then-is_interface
returns-then-is_interface c = holds_interface (env_of c.args.context.now.env.now) c.args.interface.now c.args.term.now c.if-is_interface.ensures

pub returns : goal.returns
returns c = holds_decides (env_of c.args.context.now.env.now) c.args.interface.now c.args.term.now c.in_ok-answer.answer c.if-is_interface.ensures c.in_ok-answer.ensures
