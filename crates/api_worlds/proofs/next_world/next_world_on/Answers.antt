use Rattle.api_worlds.proofs.PlatformAnswers.{next_answer, next_lines, no_count, units_count, units_error}
use Rattle.api_worlds.proofs.next_world.next_world_on.Goals as goal

pub next_world_of-requires-clause-paths : goal.next_world_of-requires-clause-paths
next_world_of-requires-clause-paths g c = λ u h.
    let k = c.unit_paths.ensures c.args.trees.now.platform c.args.trees.now.barred.now c.args.trees.now.tree.now c.args.trees.now.std_tree.now c.in-Ok.units c.requires.tree c.requires.std c.requires.named c.in-Ok.ensures u h in
    record { pathed = k.0; foreign = k.1 }

pub returns-in-Err-clause-answer : goal.returns-in-Err-clause-answer
returns-in-Err-clause-answer g c = units_error c.args.trees.now.barred.now c.args.trees.now.tree.now c.args.trees.now.std_tree.now c.args.side c.args.trees.now.platform c.in-Err.error c.refused_units.result c.in-Err.ensures c.refused_units.ensures

pub returns-in-Err-clause-steps : goal.returns-in-Err-clause-steps
returns-in-Err-clause-steps g c = no_count c.args.trees.now.barred.now c.args.trees.now.tree.now c.args.trees.now.std_tree.now c.args.side c.args.trees.now.platform c.args.steps.now

pub returns-in-Ok-clause-answer : goal.returns-in-Ok-clause-answer
returns-in-Ok-clause-answer g c = next_answer c.args.trees.now.barred.now c.args.trees.now.tree.now c.args.trees.now.std_tree.now c.args.side c.args.trees.now.platform c.in-Ok.units c.next_world_of.result c.in-Ok.ensures c.next_world_of.ensures.answer

pub returns-in-Ok-clause-steps : goal.returns-in-Ok-clause-steps
returns-in-Ok-clause-steps g c =
    units_count c.args.trees.now.barred.now c.args.trees.now.tree.now c.args.trees.now.std_tree.now c.args.side c.args.trees.now.platform c.in-Ok.units c.args.steps.now c.next_world_of.new.steps c.in-Ok.ensures c.next_world_of.ensures.steps

pub returns-in-Ok-clause-left_out : goal.returns-in-Ok-clause-left_out
returns-in-Ok-clause-left_out g c = next_lines c.args.trees.now.barred.now c.args.trees.now.tree.now c.args.trees.now.std_tree.now c.args.side c.args.trees.now.platform c.in-Ok.units c.next_world_of.result c.in-Ok.ensures c.next_world_of.ensures.left_out
