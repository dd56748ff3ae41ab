use Rattle.std.proofs.Common.{sym}
use Rattle.go_rules.specs.Scopes.{env_of}
use Rattle.go_operators.proofs.Converting.{conversion_of_constant, conversion_no_constant}
use Rattle.go_operators.proofs.conversions.conversion.Goals as goal

pub returns-in-Some : goal.returns-in-Some
returns-in-Some c = conversion_of_constant (env_of c.args.context.now.env.now) c.args.operand.now _ _ c.args.term.now c.in_ok-answer.answer c.in-Some.ensures c.in_ok-answer.ensures

pub returns-then-is_constant : goal.returns-then-is_constant
returns-then-is_constant c = conversion_no_constant (env_of c.args.context.now.env.now) c.args.operand.now c.args.term.now c.in_default.ensures (sym c.if-is_constant.ensures)
