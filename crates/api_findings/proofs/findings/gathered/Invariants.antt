use Rattle.std.specs.Option.{option_copied}
use Rattle.std.specs.Vec.Iter.{into_iter_items}
use Rattle.api_findings.proofs.LeftOutPlatforms.{LeftTo}
use Rattle.api_findings.proofs.PlatformFindings.{TakenTo}
use Rattle.api_findings.proofs.PlatformOutcomes.{Left}
use Rattle.api_findings.proofs.findings.gathered.Given as goal

abbrev pub invariant-loop-at : goal.invariant-loop-at
invariant-loop-at l = record {
  taken : TakenTo l.trees.barred.now (option_copied l.trees.old_tree) l.trees.tree.now l.trees.std_tree.now l.platforms l.at l.all.features l.all.verdicts 0 0;
  left_out : LeftTo l.trees.barred.now l.trees.std_tree.now (option_copied l.trees.old_tree) l.trees.tree.now l.platforms l.at l.all.left_out;
  left : Left l.trees.barred.now (option_copied l.trees.old_tree) l.trees.tree.now l.trees.std_tree.now l.at l.firsts l.platforms (into_iter_items l.rest) l.at;
}
