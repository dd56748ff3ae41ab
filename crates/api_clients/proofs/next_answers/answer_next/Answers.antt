use Rattle.api_clients.proofs.OnePlatform.{client_pathed, no_count, units_answer, units_count, units_error}
use Rattle.api_clients.proofs.next_answers.answer_next.Goals as goal

pub next_answer_of-requires-clause-packages : goal.next_answer_of-requires-clause-packages
next_answer_of-requires-clause-packages g c = λ u h.
    let k = c.client_unit_paths.ensures c.args.platform c.args.trees.now.barred.now c.args.trees.now.tree.now c.args.trees.now.std_tree.now c.args.trees.now.client.now c.in-Ok.units c.requires.tree c.requires.std c.requires.named c.in-Ok.ensures u h in
    record { pathed = k.0; foreign = k.1 }

pub next_answer_of-requires-clause-path : goal.next_answer_of-requires-clause-path
next_answer_of-requires-clause-path g c = client_pathed c.args.trees.now.barred.now c.args.trees.now.tree.now c.args.trees.now.std_tree.now c.args.trees.now.client.now c.args.platform c.in-Ok.units c.in-Ok.ensures

pub returns-in-Err-clause-answer : goal.returns-in-Err-clause-answer
returns-in-Err-clause-answer g c = units_error c.args.trees.now.barred.now c.args.trees.now.tree.now c.args.trees.now.std_tree.now c.args.trees.now.client.now c.args.platform c.items.result.now c.in-Err.error c.refused_units.result c.items.ensures c.in-Err.ensures c.refused_units.ensures

pub returns-in-Err-clause-steps : goal.returns-in-Err-clause-steps
returns-in-Err-clause-steps g c = no_count c.args.trees.now.barred.now c.args.trees.now.tree.now c.args.trees.now.std_tree.now c.args.trees.now.client.now c.args.platform c.args.steps.now

pub returns-in-Ok-clause-answer : goal.returns-in-Ok-clause-answer
returns-in-Ok-clause-answer g c = units_answer c.args.trees.now.barred.now c.args.trees.now.tree.now c.args.trees.now.std_tree.now c.args.trees.now.client.now c.args.platform c.in-Ok.units c.next_answer_of.result c.in-Ok.ensures c.next_answer_of.ensures.answer

pub returns-in-Ok-clause-steps : goal.returns-in-Ok-clause-steps
returns-in-Ok-clause-steps g c =
    units_count c.args.trees.now.barred.now c.args.trees.now.tree.now c.args.trees.now.std_tree.now c.args.trees.now.client.now c.args.platform c.in-Ok.units c.args.steps.now c.next_answer_of.new.steps c.in-Ok.ensures c.next_answer_of.ensures.steps
