use Rattle.std.proofs.Common.{refl}
use Rattle.api_clients.proofs.PlatformAnswers.{none_counted}
use Rattle.api_clients.proofs.clients.vet_on_platforms.Goals as goal

pub returns-in-Err-clause-steps : goal.returns-in-Err-clause-steps
returns-in-Err-clause-steps g c = none_counted c.args.trees.now.barred.now c.args.trees.now.tree.now c.args.trees.now.std_tree.now c.args.trees.now.client.now c.args.platforms.now c.args.steps.now c.args.steps.now refl
