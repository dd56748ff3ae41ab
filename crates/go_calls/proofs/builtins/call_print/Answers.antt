use Rattle.go_rules.specs.Scopes.{env_of}
use Rattle.go_calls.specs.Builtins.{Prints}
use Rattle.go_calls.proofs.Building.{any_gives, any_nothing}
use Rattle.go_calls.proofs.builtins.call_print.Goals as goal

pub returns-then-dots : goal.returns-then-dots
returns-then-dots c = any_nothing (Prints (env_of c.args.context.now.env.now)) c.args.operands.now c.args.dots c.if-dots.true

pub returns : goal.returns
returns c = any_gives (Prints (env_of c.args.context.now.env.now)) c.args.operands.now c.args.dots c.print.result c.if-dots.false c.print.ensures
