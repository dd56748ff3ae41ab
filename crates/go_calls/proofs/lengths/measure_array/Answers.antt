use Rattle.go_rules.specs.Scopes.{env_of}
use Rattle.go_calls.proofs.Measuring.{loud_gives, quiet_gives}
use Rattle.go_calls.proofs.lengths.measure_array.Goals as goal

pub returns-then-loud : goal.returns-then-loud
returns-then-loud c = loud_gives (env_of c.args.context.now.env.now) c.args.loud c.args.length _ c.if-loud.true c.int_value.ensures

pub returns : goal.returns
returns c = quiet_gives (env_of c.args.context.now.env.now) c.args.loud c.args.length c.int_within.result c.if-loud.false c.int_within.ensures
