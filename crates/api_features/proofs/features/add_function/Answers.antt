use Rattle.api_features.proofs.FeatureRests.{function_line}
use Rattle.api_features.proofs.features.add_function.Goals as goal

pub returns : goal.returns
returns c =
    function_line c.args.of.now.world.now.packages c.args.of.now.path.now c.args.of.now.name.now c.args.signature.now c.in_ok-rest.rest.items c.args.lines.now c.add.new.lines c.in_ok-rest.ensures c.in_ok-add.ensures
