use Rattle.go_rules.specs.Scopes.{env_of}
use Rattle.go_calls.proofs.Measuring.{measure_string, measure_typed, measure_no_type}
use Rattle.go_calls.proofs.lengths.measure.Goals as goal

pub returns-in-Some : goal.returns-in-Some
returns-in-Some c = measure_string (env_of c.args.context.now.env.now) c.args.function c.args.loud c.args.operand.now _ c.in-Some.ensures

pub returns-in-Some-type_of : goal.returns-in-Some-type_of
returns-in-Some-type_of c = measure_typed (env_of c.args.context.now.env.now) c.args.function c.args.loud c.args.operand.now _ c.measure_typed.result c.in-Some-type_of.ensures c.in_default.ensures c.measure_typed.ensures

pub returns-in-None : goal.returns-in-None
returns-in-None c = measure_no_type (env_of c.args.context.now.env.now) c.args.function c.args.loud c.args.operand.now c.in-None.ensures c.in_default.ensures
