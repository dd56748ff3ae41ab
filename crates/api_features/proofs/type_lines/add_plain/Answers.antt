use Rattle.api_features.proofs.FeatureRests.{plain_line}
use Rattle.api_features.proofs.type_lines.add_plain.Goals as goal

pub returns : goal.returns
returns c =
    plain_line c.args.of.now.world.now.packages c.args.of.now.path.now c.args.of.now.name.now c.args.term.now c.in_ok-rest.rest.items c.args.lines.now c.add.new.lines c.requires c.in_ok-rest.ensures c.in_ok-add.ensures
