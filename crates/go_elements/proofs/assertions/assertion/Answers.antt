use Rattle.go_rules.specs.Scopes.{env_of}
use Rattle.go_elements.specs.Assertions.{Asserts}
use Rattle.go_operators.proofs.Answers.{same_answer}
use Rattle.go_elements.proofs.Asserting.{assert_no_type, assert_no_interface, assert_gives}
use Rattle.go_elements.proofs.assertions.assertion.Goals as goal

pub returns-in-None : goal.returns-in-None
returns-in-None c = assert_no_type (env_of c.args.context.now.env.now) c.args.operand.now c.args.term.now c.in-None.ensures

pub returns-then-not-is_interface : goal.returns-then-not-is_interface
returns-then-not-is_interface c = assert_no_interface (env_of c.args.context.now.env.now) c.args.operand.now _ c.args.term.now c.in-Some.ensures c.if-not-is_interface.ensures

pub returns : goal.returns
returns c = same_answer (Asserts (env_of c.args.context.now.env.now) c.args.operand.now c.args.term.now) _ _ c.in_ok-answer.ensures (assert_gives (env_of c.args.context.now.env.now) c.args.operand.now _ c.args.term.now c.in_ok-may.may c.in-Some.ensures c.if-not-is_interface.ensures c.in_ok-may.ensures)
