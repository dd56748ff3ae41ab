use Rattle.std.proofs.Common.{sym, ◌∙◌}
use Rattle.go_rules.specs.Scopes.{env_of}
use Rattle.go_operators.proofs.TypedOperands.{string_decides}
use Rattle.go_operators.proofs.values.is_string_value.Goals as goal

pub returns-in-Some : goal.returns-in-Some
returns-in-Some c = string_decides (env_of c.args.context.now.env.now) c.args.operand.now _ c.is_string.result (sym c.is_constant.ensures ∙ c.if-is_constant.false) c.in-Some.ensures c.is_string.ensures
