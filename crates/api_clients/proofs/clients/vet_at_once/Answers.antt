use Rattle.std.proofs.Common.{arith}
use Rattle.api_clients.proofs.PlatformOutcomes.{merged_count}
use Rattle.api_clients.proofs.clients.vet_at_once.Goals as goal

pub answered-outcomes-requires-clause-same : goal.answered-outcomes-requires-clause-same
answered-outcomes-requires-clause-same g c κs within = c.requires.firsts.many

pub returns-in-Err-clause-steps : goal.returns-in-Err-clause-steps
returns-in-Err-clause-steps g c = merged_count c.args.trees.now.barred.now c.args.trees.now.tree.now c.args.trees.now.std_tree.now c.args.trees.now.client.now c.args.platforms.now _ c.args.steps.now _ c.answered-outcomes.ensures.steps (omega (arith, c.merge.ensures))

pub returns-in-Ok-clause-steps : goal.returns-in-Ok-clause-steps
returns-in-Ok-clause-steps g c = merged_count c.args.trees.now.barred.now c.args.trees.now.tree.now c.args.trees.now.std_tree.now c.args.trees.now.client.now c.args.platforms.now _ c.args.steps.now _ c.answered-outcomes.ensures.steps (omega (arith, c.merge.ensures))
