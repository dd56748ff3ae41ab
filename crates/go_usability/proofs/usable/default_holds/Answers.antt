use Rattle.std.proofs.Common.{ap, ◌∙◌}
use Rattle.go_model.specs.constants.Constants.{is_representable}
use Rattle.go_rules.specs.Scopes.{env_of}
use Rattle.go_usability.proofs.Using.{default_decides}
use Rattle.go_usability.proofs.usable.default_holds.Goals as goal

pub returns : goal.returns
returns c = default_decides (env_of c.args.context.now.env.now) c.args.kind c.args.value.now c.default_basic.result c.representable.result c.default_basic.ensures (c.representable.ensures ∙ ap (is_representable c.args.value.now c.default_basic.result) c.bits.ensures.bits)
