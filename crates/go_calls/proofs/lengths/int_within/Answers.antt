use Rattle.std.proofs.Common.{sym}
use Rattle.go_rules.specs.Scopes.{env_of}
use Rattle.go_calls.proofs.Measuring.{within_given}
use Rattle.go_calls.proofs.lengths.int_within.Goals as goal

pub returns-then-representable : goal.returns-then-representable
returns-then-representable c = within_given (env_of c.args.context.now.env.now) c.args.number c.bits.result c.whole-value.result c.int_constant.result c.whole-value.ensures c.bits.ensures.bits (sym c.if-representable.ensures) c.int_constant.ensures
