use Rattle.std.proofs.Common.{[], ◌∷◌, refl}
use Rattle.api_clients.proofs.PlatformAnswers.{none_counted}
use Rattle.api_clients.proofs.outcomes.outcome_on.Goals as goal

pub returns-then-first-number-clause-steps : goal.returns-then-first-number-clause-steps
returns-then-first-number-clause-steps g c = none_counted c.args.trees.now.barred.now c.args.trees.now.tree.now c.args.trees.now.std_tree.now c.args.trees.now.client.now (c.args.platform ∷ []) c.args.steps.now c.args.steps.now refl
