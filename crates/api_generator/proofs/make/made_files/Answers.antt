use Rattle.std.proofs.Common.{◌-◌, arith}
use Rattle.api_generator.specs.MadeTrees.{made_files}
use Rattle.api_generator.proofs.MadeLists.{package_added}
use Rattle.api_generator.proofs.make.made_files.Goals as goal

pub loop-left-preserved : goal.loop-left-preserved
loop-left-preserved c = (
  package_added c.args.seed c.loop-left.left (c.loop-left.left - 1) c.loop-left.files c.add_package.new.files (made_files c.args.seed c.args.size) (omega arith) c.in_ok-add_package.ensures c.loop-left.invariant.0,
  omega (arith, c.loop-left.invariant.1),
)
