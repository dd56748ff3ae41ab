use Rattle.std.specs.Option.{option_copied}
use Rattle.api_findings.proofs.LeftOutPlatforms.{left_alike, left_all, left_more, left_none}
use Rattle.api_findings.proofs.PlatformFindings.{alike_earlier, as_many, count_all, count_here, error_here, taken_all, taken_more, taken_none}
use Rattle.api_findings.proofs.PlatformOutcomes.{outcome_there}
use Rattle.api_findings.proofs.findings.find_in_order.Goals as goal

pub loop-at-init : goal.loop-at-init
loop-at-init g c = record {
  taken = taken_none c.args.trees.now.barred.now (option_copied c.args.trees.now.old_tree) c.args.trees.now.tree.now c.args.trees.now.std_tree.now c.args.platforms.now c.none-all.result.features c.none-all.result.verdicts c.args.steps.now c.none-all.ensures.features c.none-all.ensures.verdicts;
  left_out = left_none c.args.trees.now.barred.now c.args.trees.now.std_tree.now (option_copied c.args.trees.now.old_tree) c.args.trees.now.tree.now c.args.platforms.now c.none-all.result.left_out c.none-all.ensures.left_out;
  chain = c.new-chain.ensures;
}

pub add_outcome-requires-clause-left_out : goal.add_outcome-requires-clause-left_out
add_outcome-requires-clause-left_out g c = λ h.
    left_alike c.args.trees.now.barred.now c.args.trees.now.std_tree.now (option_copied c.args.trees.now.old_tree) c.args.trees.now.tree.now c.args.platforms.now c.args.firsts.now c.requires.firsts c.loop-at.at c.loop-at.all.left_out c.loop-at-test.true c.loop-at.invariant.left_out
    (as_many c.args.trees.now.barred.now (option_copied c.args.trees.now.old_tree) c.args.trees.now.tree.now c.args.trees.now.std_tree.now c.args.platforms.now c.loop-at.at c.loop-at.all.features c.loop-at.all.verdicts c.loop-at.all.left_out c.args.steps.now c.loop-at.steps c.loop-at.invariant.taken c.loop-at.invariant.left_out h)

pub add_outcome-requires-clause-alike : goal.add_outcome-requires-clause-alike
add_outcome-requires-clause-alike g c =
    alike_earlier c.args.trees.now.barred.now (option_copied c.args.trees.now.old_tree) c.args.trees.now.tree.now c.args.trees.now.std_tree.now c.args.platforms.now c.args.firsts.now c.requires.firsts c.loop-at.at c.loop-at.all.features c.loop-at.all.verdicts c.args.steps.now c.loop-at.steps c.loop-at-test.true c.loop-at.invariant.taken

pub returns-in-Err-clause-answer : goal.returns-in-Err-clause-answer
returns-in-Err-clause-answer g c =
    error_here c.args.trees.now.barred.now (option_copied c.args.trees.now.old_tree) c.args.trees.now.tree.now c.args.trees.now.std_tree.now c.args.platforms.now c.loop-at.at _ c.loop-at.all.features c.loop-at.all.verdicts c.args.steps.now c.loop-at.steps c.outcome_on-outcome.new.steps c.loop-at-test.true c.loop-at.invariant.taken c.outcome_on-outcome.ensures.steps c.in-Err.error c.in-Err.ensures.answer

pub returns-in-Err-clause-steps : goal.returns-in-Err-clause-steps
returns-in-Err-clause-steps g c =
    count_here c.args.trees.now.barred.now (option_copied c.args.trees.now.old_tree) c.args.trees.now.tree.now c.args.trees.now.std_tree.now c.args.platforms.now c.loop-at.at _ c.loop-at.all.features c.loop-at.all.verdicts c.args.steps.now c.loop-at.steps c.outcome_on-outcome.new.steps c.loop-at-test.true c.loop-at.invariant.taken c.outcome_on-outcome.ensures.steps

pub loop-at-preserved : goal.loop-at-preserved
loop-at-preserved g c = record {
  taken = taken_more c.args.trees.now.barred.now (option_copied c.args.trees.now.old_tree) c.args.trees.now.tree.now c.args.trees.now.std_tree.now c.args.platforms.now c.loop-at.at _ c.loop-at.all.features c.loop-at.all.verdicts c.args.steps.now c.loop-at.steps c.outcome_on-outcome.new.steps c.loop-at-test.true c.loop-at.invariant.taken c.outcome_on-outcome.ensures.steps
      c.in-Ok.ensures.answer.lines _ c.add_outcome.new.all.features c.add_outcome.new.all.verdicts c.in-Ok.ensures.answer.features c.in-Ok.ensures.answer.verdicts c.in-Ok.ensures.answer.found;
  left_out = left_more c.args.trees.now.barred.now c.args.trees.now.std_tree.now (option_copied c.args.trees.now.old_tree) c.args.trees.now.tree.now c.args.platforms.now c.loop-at.at _ c.loop-at.all.left_out c.add_outcome.new.all.left_out c.loop-at-test.true c.loop-at.invariant.left_out c.in-Ok.ensures.left_out;
  chain = c.outcome_on-outcome.ensures.chain;
}

pub returns-clause-answer : goal.returns-clause-answer
returns-clause-answer g c = taken_all c.args.trees.now.barred.now (option_copied c.args.trees.now.old_tree) c.args.trees.now.tree.now c.args.trees.now.std_tree.now c.args.platforms.now c.loop-at.at c.loop-at.all.features c.loop-at.all.verdicts c.args.steps.now c.loop-at.steps c.loop-at-test.false c.loop-at.invariant.taken

pub returns-clause-steps : goal.returns-clause-steps
returns-clause-steps g c = count_all c.args.trees.now.barred.now (option_copied c.args.trees.now.old_tree) c.args.trees.now.tree.now c.args.trees.now.std_tree.now c.args.platforms.now c.loop-at.at c.loop-at.all.features c.loop-at.all.verdicts c.args.steps.now c.loop-at.steps c.loop-at-test.false c.loop-at.invariant.taken

pub returns-clause-left_out : goal.returns-clause-left_out
returns-clause-left_out g c = left_all c.args.trees.now.barred.now c.args.trees.now.std_tree.now (option_copied c.args.trees.now.old_tree) c.args.trees.now.tree.now c.args.platforms.now c.loop-at.at c.loop-at.all.left_out c.loop-at-test.false c.loop-at.invariant.left_out

pub add_outcome-requires-clause-outcome : goal.add_outcome-requires-clause-outcome
add_outcome-requires-clause-outcome g c =
    outcome_there c.args.trees.now.barred.now (option_copied c.args.trees.now.old_tree) c.args.trees.now.tree.now c.args.trees.now.std_tree.now c.args.platforms.now c.loop-at.at c.loop-at.all.features c.loop-at.all.verdicts c.args.steps.now c.loop-at.steps c.loop-at-test.true c.loop-at.invariant.taken _ _ _ c.outcome_on-outcome.ensures.outcome
