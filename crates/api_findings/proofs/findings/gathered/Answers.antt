use Rattle.std.proofs.Common.{◌∷◌, [], ◌∙◌, get_or, refl, subst}
use Rattle.std.specs.Option.{option_copied}
use Rattle.std.specs.Vec.Iter.{into_iter_items}
use Rattle.api_findings.proofs.LeftOutPlatforms.{left_alike, left_all, left_more, left_none}
use Rattle.api_findings.proofs.PlatformFindings.{alike_earlier, as_many, error_here, none_counted, taken_all, taken_more, taken_none}
use Rattle.api_findings.proofs.PlatformOutcomes.{Left, first_left, next_left, next_outcome, outcome_there}
use Rattle.go_model.specs.declared.files.platform.Platform.TheVariants as platform
use Rattle.api_findings.proofs.findings.gathered.Goals as goal

pub loop-at-init : goal.loop-at-init
loop-at-init c = record {
  taken = taken_none c.args.trees.now.barred.now (option_copied c.args.trees.now.old_tree) c.args.trees.now.tree.now c.args.trees.now.std_tree.now c.args.platforms.now c.none-all.result.features c.none-all.result.verdicts 0 c.none-all.ensures.features c.none-all.ensures.verdicts;
  left_out = left_none c.args.trees.now.barred.now c.args.trees.now.std_tree.now (option_copied c.args.trees.now.old_tree) c.args.trees.now.tree.now c.args.platforms.now c.none-all.result.left_out c.none-all.ensures.left_out;
  left = first_left c.args.trees.now.barred.now (option_copied c.args.trees.now.old_tree) c.args.trees.now.tree.now c.args.trees.now.std_tree.now c.args.firsts.now c.args.platforms.now c.args.outcomes _ (c.into_iter-rest.ensures.rest ∙ c.into_vec.ensures) c.requires.outcomes;
}

pub add_outcome-requires-clause-left_out : goal.add_outcome-requires-clause-left_out
add_outcome-requires-clause-left_out c = λ h.
    left_alike c.args.trees.now.barred.now c.args.trees.now.std_tree.now (option_copied c.args.trees.now.old_tree) c.args.trees.now.tree.now c.args.platforms.now c.args.firsts.now c.requires.firsts c.loop-at.at c.loop-at.all.left_out c.loop-at-test.true c.loop-at.invariant.left_out
    (as_many c.args.trees.now.barred.now (option_copied c.args.trees.now.old_tree) c.args.trees.now.tree.now c.args.trees.now.std_tree.now c.args.platforms.now c.loop-at.at c.loop-at.all.features c.loop-at.all.verdicts c.loop-at.all.left_out 0 0 c.loop-at.invariant.taken c.loop-at.invariant.left_out h)

pub add_outcome-requires-clause-alike : goal.add_outcome-requires-clause-alike
add_outcome-requires-clause-alike c =
    alike_earlier c.args.trees.now.barred.now (option_copied c.args.trees.now.old_tree) c.args.trees.now.tree.now c.args.trees.now.std_tree.now c.args.platforms.now c.args.firsts.now c.requires.firsts c.loop-at.at c.loop-at.all.features c.loop-at.all.verdicts 0 0 c.loop-at-test.true c.loop-at.invariant.taken

pub add_outcome-requires-clause-outcome : goal.add_outcome-requires-clause-outcome
add_outcome-requires-clause-outcome c =
    outcome_there c.args.trees.now.barred.now (option_copied c.args.trees.now.old_tree) c.args.trees.now.tree.now c.args.trees.now.std_tree.now c.args.platforms.now c.loop-at.at c.loop-at.all.features c.loop-at.all.verdicts 0 0 c.loop-at-test.true c.loop-at.invariant.taken _ _ _
    (next_outcome c.args.trees.now.barred.now (option_copied c.args.trees.now.old_tree) c.args.trees.now.tree.now c.args.trees.now.std_tree.now c.loop-at.at c.args.firsts.now c.args.platforms.now c.requires.firsts.many c.in-Some.outcome (into_iter_items c.next.new.self) c.loop-at.at _ (subst (λ w. Left c.args.trees.now.barred.now (option_copied c.args.trees.now.old_tree) c.args.trees.now.tree.now c.args.trees.now.std_tree.now c.loop-at.at c.args.firsts.now c.args.platforms.now w c.loop-at.at) c.in-Some.ensures.items c.loop-at.invariant.left))

pub returns-in-Err-clause-answer : goal.returns-in-Err-clause-answer
returns-in-Err-clause-answer c =
    error_here c.args.trees.now.barred.now (option_copied c.args.trees.now.old_tree) c.args.trees.now.tree.now c.args.trees.now.std_tree.now c.args.platforms.now c.loop-at.at _ c.loop-at.all.features c.loop-at.all.verdicts 0 0 0 c.loop-at-test.true c.loop-at.invariant.taken (none_counted c.args.trees.now.barred.now (option_copied c.args.trees.now.old_tree) c.args.trees.now.tree.now c.args.trees.now.std_tree.now (get_or c.args.platforms.now c.loop-at.at _ ∷ []) 0 0 refl) c.in-Err.error c.in-Err.ensures.answer

pub loop-at-preserved : goal.loop-at-preserved
loop-at-preserved c = record {
  taken = taken_more c.args.trees.now.barred.now (option_copied c.args.trees.now.old_tree) c.args.trees.now.tree.now c.args.trees.now.std_tree.now c.args.platforms.now c.loop-at.at _ c.loop-at.all.features c.loop-at.all.verdicts 0 0 0 c.loop-at-test.true c.loop-at.invariant.taken (none_counted c.args.trees.now.barred.now (option_copied c.args.trees.now.old_tree) c.args.trees.now.tree.now c.args.trees.now.std_tree.now (get_or c.args.platforms.now c.loop-at.at _ ∷ []) 0 0 refl)
      c.in-Ok.ensures.answer.lines _ c.add_outcome.new.all.features c.add_outcome.new.all.verdicts c.in-Ok.ensures.answer.features c.in-Ok.ensures.answer.verdicts c.in-Ok.ensures.answer.found;
  left_out = left_more c.args.trees.now.barred.now c.args.trees.now.std_tree.now (option_copied c.args.trees.now.old_tree) c.args.trees.now.tree.now c.args.platforms.now c.loop-at.at _ c.loop-at.all.left_out c.add_outcome.new.all.left_out c.loop-at-test.true c.loop-at.invariant.left_out c.in-Ok.ensures.left_out;
  left = next_left c.args.trees.now.barred.now (option_copied c.args.trees.now.old_tree) c.args.trees.now.tree.now c.args.trees.now.std_tree.now c.loop-at.at c.args.firsts.now c.args.platforms.now c.requires.firsts.many c.in-Some.outcome (into_iter_items c.next.new.self) c.loop-at.at platform.Linux386 (subst (λ w. Left c.args.trees.now.barred.now (option_copied c.args.trees.now.old_tree) c.args.trees.now.tree.now c.args.trees.now.std_tree.now c.loop-at.at c.args.firsts.now c.args.platforms.now w c.loop-at.at) c.in-Some.ensures.items c.loop-at.invariant.left) c.in-Ok.ensures.goes_on;
}

pub returns-clause-answer : goal.returns-clause-answer
returns-clause-answer c = taken_all c.args.trees.now.barred.now (option_copied c.args.trees.now.old_tree) c.args.trees.now.tree.now c.args.trees.now.std_tree.now c.args.platforms.now c.loop-at.at c.loop-at.all.features c.loop-at.all.verdicts 0 0 c.loop-at-test.false c.loop-at.invariant.taken

pub returns-clause-left_out : goal.returns-clause-left_out
returns-clause-left_out c = left_all c.args.trees.now.barred.now c.args.trees.now.std_tree.now (option_copied c.args.trees.now.old_tree) c.args.trees.now.tree.now c.args.platforms.now c.loop-at.at c.loop-at.all.left_out c.loop-at-test.false c.loop-at.invariant.left_out
