use Rattle.api_clients.proofs.PlatformOutcomes.{AnsweredTo}
use Rattle.api_clients.specs.inner.Chains.{IsChain}
use Rattle.api_clients.proofs.outcomes.in_order.Given as goal

abbrev pub invariant-loop-at : goal.invariant-loop-at
invariant-loop-at g l = record {
  answered : AnsweredTo l.trees.barred.now l.trees.tree.now l.trees.std_tree.now l.trees.client.now l.start l.firsts l.platforms l.at l.all l.fn.steps l.steps;
  chain : IsChain l.chain;
}
