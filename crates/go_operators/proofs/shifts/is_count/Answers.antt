use Rattle.go_rules.specs.Scopes.{env_of}
use Rattle.go_operators.proofs.Shifting.{count_value_decides, counts_constant}
use Rattle.go_operators.proofs.shifts.is_count.Goals as goal

pub returns-in-Some : goal.returns-in-Some
returns-in-Some c = counts_constant (env_of c.args.context.now.env.now) c.args.operand.now _ _ c.is_constant_count.result c.in-Some.ensures c.is_constant_count.ensures

pub returns : goal.returns
returns c = count_value_decides (env_of c.args.context.now.env.now) c.args.operand.now c.is_integer_value.result c.in_default.ensures c.is_integer_value.ensures
