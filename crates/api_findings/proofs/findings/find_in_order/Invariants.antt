use Rattle.std.specs.Option.{option_copied}
use Rattle.api_findings.proofs.LeftOutPlatforms.{LeftTo}
use Rattle.api_findings.proofs.PlatformFindings.{TakenTo}
use Rattle.api_findings.specs.inner.Chains.{IsChain}
use Rattle.api_findings.proofs.findings.find_in_order.Given as goal

abbrev pub invariant-loop-at : goal.invariant-loop-at
invariant-loop-at g l = record {
  taken : TakenTo l.trees.barred.now (option_copied l.trees.old_tree) l.trees.tree.now l.trees.std_tree.now l.platforms l.at l.all.features l.all.verdicts l.fn.steps l.steps;
  left_out : LeftTo l.trees.barred.now l.trees.std_tree.now (option_copied l.trees.old_tree) l.trees.tree.now l.platforms l.at l.all.left_out;
  chain : IsChain l.chain;
}
