use Rattle.std.proofs.Common.{arith}
use Rattle.api_clients.proofs.PlatformOutcomes.{split_count, split_outcomes}
use Rattle.api_clients.proofs.outcomes.+share.Goals as goal

pub returns-clause-outcomes : goal.returns-clause-outcomes
returns-clause-outcomes g t c =
    split_outcomes c.args.trees.now.barred.now c.args.trees.now.tree.now c.args.trees.now.std_tree.now c.args.trees.now.client.now c.args.start c.end_of-end.result c.args.firsts.now _ _ c.args.platforms.now _ _ c.split_at.ensures.front c.split_at.ensures.back c.split_at-2.ensures.front c.split_at-2.ensures.back (omega (arith, c.end_of-end.ensures, c.requires.same))
    _ _ _ c.together.ensures.outcomes c.join-ours.ensures.first.0 c.join-ours.ensures.second.0

pub returns-clause-steps : goal.returns-clause-steps
returns-clause-steps g t c =
    split_count c.args.trees.now.barred.now c.args.trees.now.tree.now c.args.trees.now.std_tree.now c.args.trees.now.client.now c.args.start c.end_of-end.result c.args.firsts.now _ _ c.args.platforms.now _ _ c.split_at.ensures.front c.split_at.ensures.back c.split_at-2.ensures.front c.split_at-2.ensures.back (omega (arith, c.end_of-end.ensures, c.requires.same))
    _ _ _ c.join-ours.ensures.first.1 c.join-ours.ensures.second.1 c.together.ensures.steps
