use Rattle.go_rules.specs.Scopes.{env_of}
use Rattle.go_calls.proofs.Measuring.{string_not_length, string_no_string}
use Rattle.go_calls.proofs.lengths.measure_string.Goals as goal

pub returns-then-not-is_len : goal.returns-then-not-is_len
returns-then-not-is_len c = string_not_length (env_of c.args.context.now.env.now) c.args.function c.args.operand.now c.if-not-is_len.ensures

pub returns-in-None : goal.returns-in-None
returns-in-None c = string_no_string (env_of c.args.context.now.env.now) c.args.function c.args.operand.now c.in-None.ensures
