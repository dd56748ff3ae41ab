use Rattle.go_rules.specs.Scopes.{env_of}
use Rattle.go_operators.proofs.Converting.{default_converts}
use Rattle.go_operators.proofs.LevelForms.{plain_is}
use Rattle.go_operators.proofs.conversions.convert_default.Goals as goal

pub returns : goal.returns
returns c = default_converts (env_of c.args.context.now.env.now) c.args.kind c.default_basic.result _ c.args.to.now c.in_ok-answer.answer c.default_basic.ensures (plain_is c.default_basic.result) c.in_ok-answer.ensures
