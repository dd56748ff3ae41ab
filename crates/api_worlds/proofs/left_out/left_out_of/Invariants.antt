use Rattle.std.proofs.Common.{◌≡◌, [], drop, map}
use Rattle.api_worlds.specs.LeftOut.{lines_with}
use Rattle.go_exposed.specs.SkippedValues.{all_skipped}
use Rattle.api_worlds.proofs.left_out.left_out_of.Given as goal

abbrev pub invariant-loop-at : goal.invariant-loop-at
invariant-loop-at l = lines_with l.tree l.std_tree l.packages.items (drop l.at l.units) (map all_skipped (drop l.at l.skipped)) ≡ lines_with l.tree l.std_tree [] l.units (map all_skipped l.skipped)
