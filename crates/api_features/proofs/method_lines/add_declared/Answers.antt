use Rattle.api_features.proofs.MethodRests.{declared_line}
use Rattle.api_features.proofs.method_lines.add_declared.Goals as goal

pub returns : goal.returns
returns c = declared_line c.args.of.now.world.now.packages c.args.of.now.path.now c.args.of.now.name.now c.args.method.now c.in_ok-rest.rest.items c.args.lines.now c.add.new.lines (c.is_exported.ensures.0 c.if-not-is_exported.false) c.in_ok-rest.ensures c.in_ok-add.ensures
