use Rattle.go_rules.specs.Scopes.{env_of}
use Rattle.go_operators.specs.inner.Constants.{ConstantShifts}
use Rattle.go_operators.proofs.Answers.{same_answer}
use Rattle.go_operators.proofs.Shifting.{shift_no_kind, shifted_constant}
use Rattle.go_operators.proofs.shifts.shift_constant.Goals as goal

pub returns-in-None : goal.returns-in-None
returns-in-None c = shift_no_kind (env_of c.args.context.now.env.now) c.args.left c.args.term.now c.args.value.now c.args.count.now c.in-None.ensures

pub returns-in_ok-answer-in-Some : goal.returns-in_ok-answer-in-Some
returns-in_ok-answer-in-Some c = same_answer (ConstantShifts (env_of c.args.context.now.env.now) c.args.left c.args.term.now c.args.value.now c.args.count.now) _ _ c.in_ok-answer-in-Some.ensures (shifted_constant (env_of c.args.context.now.env.now) c.args.left c.args.term.now c.args.value.now c.args.count.now c.in-Some.kind c.bits.result c.shift-shifted.result c.in-Some.ensures c.bits.ensures.bits c.shift-shifted.ensures)
