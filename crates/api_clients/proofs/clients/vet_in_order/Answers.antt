use Rattle.api_clients.proofs.PlatformAnswers.{alike_earlier, count_all, count_here, error_here, taken_all, taken_more, taken_none}
use Rattle.api_clients.proofs.PlatformOutcomes.{outcome_there}
use Rattle.api_clients.proofs.clients.vet_in_order.Goals as goal

pub loop-at-init : goal.loop-at-init
loop-at-init g c = record {
  taken = taken_none c.args.trees.now.barred.now c.args.trees.now.tree.now c.args.trees.now.std_tree.now c.args.trees.now.client.now c.args.platforms.now c.new-all.result c.args.steps.now c.new-all.ensures;
  chain = c.new-chain.ensures;
}

pub add_outcome-requires-clause-alike : goal.add_outcome-requires-clause-alike
add_outcome-requires-clause-alike g c =
    alike_earlier c.args.trees.now.barred.now c.args.trees.now.tree.now c.args.trees.now.std_tree.now c.args.trees.now.client.now c.args.platforms.now c.args.firsts.now c.requires.firsts c.loop-at.at c.loop-at.all c.args.steps.now c.loop-at.steps c.loop-at-test.true c.loop-at.invariant.taken

pub returns-in-Err-clause-answer : goal.returns-in-Err-clause-answer
returns-in-Err-clause-answer g c =
    error_here c.args.trees.now.barred.now c.args.trees.now.tree.now c.args.trees.now.std_tree.now c.args.trees.now.client.now c.args.platforms.now c.loop-at.at _ c.loop-at.all c.args.steps.now c.loop-at.steps c.outcome_on-outcome.new.steps c.loop-at-test.true c.loop-at.invariant.taken c.outcome_on-outcome.ensures.steps c.in-Err.error c.in-Err.ensures.answer

pub returns-in-Err-clause-steps : goal.returns-in-Err-clause-steps
returns-in-Err-clause-steps g c =
    count_here c.args.trees.now.barred.now c.args.trees.now.tree.now c.args.trees.now.std_tree.now c.args.trees.now.client.now c.args.platforms.now c.loop-at.at _ c.loop-at.all c.args.steps.now c.loop-at.steps c.outcome_on-outcome.new.steps c.loop-at-test.true c.loop-at.invariant.taken c.outcome_on-outcome.ensures.steps

pub loop-at-preserved : goal.loop-at-preserved
loop-at-preserved g c = record {
  taken = taken_more c.args.trees.now.barred.now c.args.trees.now.tree.now c.args.trees.now.std_tree.now c.args.trees.now.client.now c.args.platforms.now c.loop-at.at _ c.loop-at.all c.args.steps.now c.loop-at.steps c.outcome_on-outcome.new.steps c.loop-at-test.true c.loop-at.invariant.taken c.outcome_on-outcome.ensures.steps c.add_outcome.new.answers c.in-Ok.ensures.answer;
  chain = c.outcome_on-outcome.ensures.chain;
}

pub returns-clause-answer : goal.returns-clause-answer
returns-clause-answer g c = taken_all c.args.trees.now.barred.now c.args.trees.now.tree.now c.args.trees.now.std_tree.now c.args.trees.now.client.now c.args.platforms.now c.loop-at.at c.loop-at.all c.args.steps.now c.loop-at.steps c.loop-at-test.false c.loop-at.invariant.taken

pub returns-clause-steps : goal.returns-clause-steps
returns-clause-steps g c = count_all c.args.trees.now.barred.now c.args.trees.now.tree.now c.args.trees.now.std_tree.now c.args.trees.now.client.now c.args.platforms.now c.loop-at.at c.loop-at.all c.args.steps.now c.loop-at.steps c.loop-at-test.false c.loop-at.invariant.taken

pub add_outcome-requires-clause-outcome : goal.add_outcome-requires-clause-outcome
add_outcome-requires-clause-outcome g c =
    outcome_there c.args.trees.now.barred.now c.args.trees.now.tree.now c.args.trees.now.std_tree.now c.args.trees.now.client.now c.args.platforms.now c.loop-at.at c.loop-at.all c.args.steps.now c.loop-at.steps c.loop-at-test.true c.loop-at.invariant.taken _ _ _ c.outcome_on-outcome.ensures.outcome
