use Rattle.std.proofs.Common.{sym, ◌∙◌}
use Rattle.go_rules.specs.Scopes.{env_of}
use Rattle.go_operators.proofs.TypedOperands.{integer_decides}
use Rattle.go_operators.proofs.values.is_integer_value.Goals as goal

pub returns-in-Some : goal.returns-in-Some
returns-in-Some c = integer_decides (env_of c.args.context.now.env.now) c.args.operand.now _ c.is_integer.result (sym c.is_constant.ensures ∙ c.if-is_constant.false) c.in-Some.ensures c.is_integer.ensures
