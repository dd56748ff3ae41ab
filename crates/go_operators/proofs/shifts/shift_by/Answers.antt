use Rattle.go_rules.specs.Scopes.{env_of}
use Rattle.go_operators.proofs.Shifting.{shift_constants, shift_by_value}
use Rattle.go_operators.proofs.shifts.shift_by.Goals as goal

pub returns-in_ok-shifted-in-Some : goal.returns-in_ok-shifted-in-Some
returns-in_ok-shifted-in-Some c = shift_constants (env_of c.args.context.now.env.now) c.args.left c.args.operand.now c.args.count.now c.args.term.now c.args.value.now _ c.in_ok-shifted-in-Some.shifted c.requires.constant c.in-Some.ensures c.requires.counted c.in_ok-shifted-in-Some.ensures

pub returns-in_ok-answer-in-None : goal.returns-in_ok-answer-in-None
returns-in_ok-answer-in-None c = shift_by_value (env_of c.args.context.now.env.now) c.args.left c.args.operand.now c.args.count.now c.in_ok-answer-in-None.answer c.in-None.ensures c.requires.counted c.in_ok-answer-in-None.ensures
