use Rattle.api_features.proofs.FeatureRests.{interface_all}
use Rattle.api_features.proofs.interface_lines.add_interface.Goals as goal

pub returns : goal.returns
returns c =
    interface_all c.args.of.now.world.now.packages c.args.of.now.path.now c.args.of.now.name.now c.args.methods.now c.in_ok-rest.rest.items c.args.lines.now c.add_all_exported.new.lines c.add.new.lines c.in_ok-rest.ensures c.in_ok-add_all_exported.ensures c.in_ok-add.ensures
