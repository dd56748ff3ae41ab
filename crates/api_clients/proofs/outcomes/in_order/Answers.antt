use Rattle.std.proofs.Common.{sym, ◌∙◌}
use Rattle.api_clients.proofs.PlatformOutcomes.{count_all_answered, count_answered, answered_all, answered_last, answered_more, answered_none}
use Rattle.api_clients.proofs.outcomes.in_order.Goals as goal

pub loop-at-init : goal.loop-at-init
loop-at-init g c = record {
  answered = answered_none c.args.trees.now.barred.now c.args.trees.now.tree.now c.args.trees.now.std_tree.now c.args.trees.now.client.now c.args.start c.args.firsts.now c.args.platforms.now c.new-all.result c.args.steps.now c.new-all.ensures;
  chain = c.new-chain.ensures;
}

pub loop-at-preserved : goal.loop-at-preserved
loop-at-preserved g c = record {
  answered = answered_more c.args.trees.now.barred.now c.args.trees.now.tree.now c.args.trees.now.std_tree.now c.args.trees.now.client.now c.args.start c.args.firsts.now c.args.platforms.now c.requires.same c.loop-at.at _ c.loop-at.all c.args.steps.now c.loop-at.steps c.outcome_on-outcome.new.steps c.loop-at-test.true c.loop-at.invariant.answered c.outcome_on-outcome.ensures.steps c.outcome_on-outcome.result c.outcome_on-outcome.ensures.outcome _ c.in_ok-push.ensures.ok;
  chain = c.outcome_on-outcome.ensures.chain;
}

pub returns-then-ended-clause-outcomes : goal.returns-then-ended-clause-outcomes
returns-then-ended-clause-outcomes g c = answered_last c.args.trees.now.barred.now c.args.trees.now.tree.now c.args.trees.now.std_tree.now c.args.trees.now.client.now c.args.start c.args.firsts.now c.args.platforms.now c.requires.same c.loop-at.at _ c.loop-at.all c.args.steps.now c.loop-at.steps c.outcome_on-outcome.new.steps c.loop-at-test.true c.loop-at.invariant.answered c.outcome_on-outcome.ensures.steps c.outcome_on-outcome.result c.outcome_on-outcome.ensures.outcome _ c.in_ok-push.ensures.ok (sym c.has_ended-ended.ensures ∙ c.if-ended.true)

pub returns-then-ended-clause-steps : goal.returns-then-ended-clause-steps
returns-then-ended-clause-steps g c = count_answered c.args.trees.now.barred.now c.args.trees.now.tree.now c.args.trees.now.std_tree.now c.args.trees.now.client.now c.args.start c.args.firsts.now c.args.platforms.now c.requires.same c.loop-at.at _ c.loop-at.all c.args.steps.now c.loop-at.steps c.outcome_on-outcome.new.steps c.loop-at-test.true c.loop-at.invariant.answered c.outcome_on-outcome.ensures.steps

pub returns-in_err-push-clause-steps : goal.returns-in_err-push-clause-steps
returns-in_err-push-clause-steps g c = count_answered c.args.trees.now.barred.now c.args.trees.now.tree.now c.args.trees.now.std_tree.now c.args.trees.now.client.now c.args.start c.args.firsts.now c.args.platforms.now c.requires.same c.loop-at.at _ c.loop-at.all c.args.steps.now c.loop-at.steps c.outcome_on-outcome.new.steps c.loop-at-test.true c.loop-at.invariant.answered c.outcome_on-outcome.ensures.steps

pub returns-clause-outcomes : goal.returns-clause-outcomes
returns-clause-outcomes g c = answered_all c.args.trees.now.barred.now c.args.trees.now.tree.now c.args.trees.now.std_tree.now c.args.trees.now.client.now c.args.start c.args.firsts.now c.args.platforms.now c.requires.same c.loop-at.at c.loop-at.all c.args.steps.now c.loop-at.steps c.loop-at-test.false c.loop-at.invariant.answered

pub returns-clause-steps : goal.returns-clause-steps
returns-clause-steps g c = count_all_answered c.args.trees.now.barred.now c.args.trees.now.tree.now c.args.trees.now.std_tree.now c.args.trees.now.client.now c.args.start c.args.firsts.now c.args.platforms.now c.requires.same c.loop-at.at c.loop-at.all c.args.steps.now c.loop-at.steps c.loop-at-test.false c.loop-at.invariant.answered
