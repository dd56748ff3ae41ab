use Rattle.std.specs.Option.{option_copied}
use Rattle.api_findings.proofs.PlatformOutcomes.{SoughtTo}
use Rattle.api_findings.specs.inner.Chains.{IsChain}
use Rattle.api_findings.proofs.outcomes.in_order.Given as goal

abbrev pub invariant-loop-at : goal.invariant-loop-at
invariant-loop-at g l = record {
  sought : SoughtTo l.trees.barred.now (option_copied l.trees.old_tree) l.trees.tree.now l.trees.std_tree.now l.start l.firsts l.platforms l.at l.all l.fn.steps l.steps;
  chain : IsChain l.chain;
}
