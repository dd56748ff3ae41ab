use Rattle.api_features.proofs.FeatureRests.{struct_lines}
use Rattle.api_features.proofs.struct_lines.add_struct.Goals as goal

pub returns : goal.returns
returns c =
    struct_lines c.args.of.now.world.now.packages c.args.of.now.path.now c.args.of.now.name.now c.args.fields.now c.in_ok-rest.rest.items c.args.lines.now c.add.new.lines c.add_fields.new.lines c.in_ok-rest.ensures c.in_ok-add.ensures c.in_ok-add_fields.ensures
