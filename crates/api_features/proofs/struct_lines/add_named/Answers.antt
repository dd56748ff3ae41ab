use Rattle.api_features.proofs.FeatureRests.{named_line}
use Rattle.api_features.proofs.struct_lines.add_named.Goals as goal

pub returns : goal.returns
returns c =
    named_line c.args.of.now.world.now.packages c.args.of.now.path.now c.args.of.now.name.now c.args.field.now c.in_ok-rest.rest.items c.args.lines.now c.add.new.lines c.requires.exported c.requires.named c.in_ok-rest.ensures c.in_ok-add.ensures
