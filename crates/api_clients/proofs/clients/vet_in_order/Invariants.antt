use Rattle.api_clients.proofs.PlatformAnswers.{TakenTo}
use Rattle.api_clients.specs.inner.Chains.{IsChain}
use Rattle.api_clients.proofs.clients.vet_in_order.Given as goal

abbrev pub invariant-loop-at : goal.invariant-loop-at
invariant-loop-at g l = record {
  taken : TakenTo l.trees.barred.now l.trees.tree.now l.trees.std_tree.now l.trees.client.now l.platforms l.at l.all l.fn.steps l.steps;
  chain : IsChain l.chain;
}
