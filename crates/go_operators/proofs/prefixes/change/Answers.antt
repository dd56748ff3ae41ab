use Rattle.std.proofs.Common.{sym}
use Rattle.go_rules.specs.Scopes.{env_of}
use Rattle.go_operators.proofs.Changing.{change_no_constant}
use Rattle.go_operators.proofs.prefixes.change.Goals as goal

pub returns-then-is_constant : goal.returns-then-is_constant
returns-then-is_constant c = change_no_constant (env_of c.args.context.now.env.now) c.args.op c.args.operand.now c.in_default.ensures (sym c.if-is_constant.ensures)
