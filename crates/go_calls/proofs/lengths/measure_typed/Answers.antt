use Rattle.go_rules.specs.Scopes.{env_of}
use Rattle.go_calls.proofs.Measuring.{typed_array_gives, typed_value_gives}
use Rattle.go_calls.proofs.lengths.measure_typed.Goals as goal

pub returns-in-Some : goal.returns-in-Some
returns-in-Some c = typed_array_gives (env_of c.args.context.now.env.now) c.args.function c.args.loud c.args.operand.now.mode c.args.term.now _ c.measure_array.result c.in-Some.ensures c.measure_array.ensures

pub returns-in-None : goal.returns-in-None
returns-in-None c = typed_value_gives (env_of c.args.context.now.env.now) c.args.function c.args.loud c.args.operand.now.mode c.args.term.now c.measure_value.result c.in-None.ensures c.measure_value.ensures
