use Rattle.std.proofs.Common.{◌≡◌, ◌≤◌, ◌++◌}
use Rattle.api_generator.specs.MadeTrees.{made_files, package_files}
use Rattle.api_generator.proofs.make.made_files.Given as goal

abbrev pub invariant-loop-left : goal.invariant-loop-left
invariant-loop-left l = (l.files ++ package_files l.seed l.left ≡ made_files l.seed l.size) × (l.left ≤ l.size)

abbrev pub decreases-loop-left : goal.decreases-loop-left
decreases-loop-left l = l.left
