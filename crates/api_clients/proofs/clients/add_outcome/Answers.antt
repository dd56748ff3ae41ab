use Rattle.std.proofs.Common.{slice_get}
use Rattle.api_clients.proofs.AlikeAnswers.{added_again}
use Rattle.api_clients.proofs.PlatformOutcomes.{alike_is}
use Rattle.api_clients.proofs.clients.add_outcome.Goals as goal

pub returns-in-Ok-clause-answer : goal.returns-in-Ok-clause-answer
returns-in-Ok-clause-answer c =
    added_again c.alike_client_units.ensures c.args.trees.now.barred.now c.args.trees.now.tree.now c.args.trees.now.std_tree.now c.args.trees.now.client.now c.args.platform c.args.answers.now c.push_again.new.answers (slice_get c.args.answers.now c.args.first) c.in-Ok.ensures
    (c.requires.alike (alike_is c.args.trees.now.barred.now c.args.trees.now.tree.now c.args.trees.now.std_tree.now c.args.trees.now.client.now _ _ _ _ c.in-Alike.is c.requires.outcome))
