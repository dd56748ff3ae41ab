use Rattle.go_rules.specs.Scopes.{env_of}
use Rattle.go_operators.specs.inner.Constants.{IntegerValue}
use Rattle.go_operators.proofs.Answers.{same_answer}
use Rattle.go_operators.proofs.Shifting.{integer_no_type, integer_typed}
use Rattle.go_operators.proofs.shifts.integer_value.Goals as goal

pub returns-in-None : goal.returns-in-None
returns-in-None c = integer_no_type (env_of c.args.context.now.env.now) c.args.operand.now c.in-None.ensures

pub returns-in_ok-answer-in-Some : goal.returns-in_ok-answer-in-Some
returns-in_ok-answer-in-Some c = same_answer (IntegerValue (env_of c.args.context.now.env.now) c.args.operand.now) _ _ c.in_ok-answer-in-Some.ensures (integer_typed (env_of c.args.context.now.env.now) c.args.operand.now _ c.is_integer.result c.in-Some.ensures c.is_integer.ensures)
