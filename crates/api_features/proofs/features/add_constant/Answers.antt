use Rattle.api_features.proofs.FeatureRests.{constant_lines}
use Rattle.api_features.proofs.features.add_constant.Goals as goal

pub returns : goal.returns
returns c =
    constant_lines c.args.of.now.world.now.packages c.args.of.now.path.now c.args.of.now.name.now c.args.term.now c.args.value.now c.in_ok-first.first.items c.in_ok-second.second.items c.args.lines.now c.add.new.lines c.add-2.new.lines c.in_ok-first.ensures c.in_ok-second.ensures c.in_ok-add.ensures c.in_ok-add-2.ensures
