use Rattle.go_rules.specs.Scopes.{env_of}
use Rattle.go_operators.proofs.Converting.{default_decides}
use Rattle.go_operators.proofs.conversions.default_holds.Goals as goal

pub returns : goal.returns
returns c = default_decides (env_of c.args.context.now.env.now) c.args.kind c.args.value.now c.default_basic.result c.bits.result c.representable.result c.default_basic.ensures c.bits.ensures.bits c.representable.ensures
