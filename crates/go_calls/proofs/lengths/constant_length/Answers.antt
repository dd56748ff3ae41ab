use Rattle.go_rules.specs.Scopes.{env_of}
use Rattle.go_calls.proofs.Measuring.{string_known, string_unknown}
use Rattle.go_calls.proofs.lengths.constant_length.Goals as goal

pub returns-in-Some : goal.returns-in-Some
returns-in-Some c = string_known (env_of c.args.context.now.env.now) c.args.function c.args.operand.now c.args.length c.in-Some.length c.int_within.result c.in-Some.is c.requires.len c.requires.string c.int_within.ensures

pub returns-in-None : goal.returns-in-None
returns-in-None c = string_unknown (env_of c.args.context.now.env.now) c.args.function c.args.operand.now c.args.length c.in-None.is c.requires.string
