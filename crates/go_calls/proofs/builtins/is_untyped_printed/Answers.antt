use Rattle.go_rules.specs.Scopes.{env_of}
use Rattle.go_calls.proofs.Building.{loose_printed, none_printed}
use Rattle.go_calls.proofs.builtins.is_untyped_printed.Goals as goal

pub returns-in-Some-loose_of : goal.returns-in-Some-loose_of
returns-in-Some-loose_of c = loose_printed (env_of c.args.context.now.env.now) c.args.operand.now _ c.in-Some-loose_of.ensures

pub returns-in-None : goal.returns-in-None
returns-in-None c = none_printed (env_of c.args.context.now.env.now) c.args.operand.now c.requires c.in_default.ensures c.in-None.ensures
