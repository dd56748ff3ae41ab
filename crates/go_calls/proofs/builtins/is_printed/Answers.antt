use Rattle.go_rules.specs.Scopes.{env_of}
use Rattle.go_calls.proofs.Building.{printed_type}
use Rattle.go_calls.proofs.builtins.is_printed.Goals as goal

pub returns-in-Some : goal.returns-in-Some
returns-in-Some c = printed_type (env_of c.args.context.now.env.now) c.args.operand.now _ c.in-Some.ensures
