use Rattle.go_rules.specs.Scopes.{env_of}
use Rattle.go_operators.proofs.Shifting.{shift_no_count, shift_value_gives}
use Rattle.go_operators.proofs.shifts.shift.Goals as goal

pub returns-then-not-is_count : goal.returns-then-not-is_count
returns-then-not-is_count c = shift_no_count (env_of c.args.context.now.env.now) c.args.left c.args.operand.now c.args.count.now c.if-not-is_count.ensures

pub returns-in_ok-answer-in-None : goal.returns-in_ok-answer-in-None
returns-in_ok-answer-in-None c = shift_value_gives (env_of c.args.context.now.env.now) c.args.left c.args.operand.now c.args.count.now c.in_ok-answer-in-None.answer c.in-None.ensures c.if-not-is_count.ensures c.in_ok-answer-in-None.ensures
