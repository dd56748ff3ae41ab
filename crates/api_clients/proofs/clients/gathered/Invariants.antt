use Rattle.std.specs.Vec.Iter.{into_iter_items}
use Rattle.api_clients.proofs.PlatformAnswers.{TakenTo}
use Rattle.api_clients.proofs.PlatformOutcomes.{Left}
use Rattle.api_clients.proofs.clients.gathered.Given as goal

abbrev pub invariant-loop-at : goal.invariant-loop-at
invariant-loop-at l = record {
  taken : TakenTo l.trees.barred.now l.trees.tree.now l.trees.std_tree.now l.trees.client.now l.platforms l.at l.all 0 0;
  left : Left l.trees.barred.now l.trees.tree.now l.trees.std_tree.now l.trees.client.now l.at l.firsts l.platforms (into_iter_items l.rest) l.at;
}
