use Rattle.std.proofs.Common.{◌∷◌, [], ◌∙◌, get_or, refl, subst}
use Rattle.std.specs.Vec.Iter.{into_iter_items}
use Rattle.api_clients.proofs.PlatformAnswers.{alike_earlier, error_here, none_counted, taken_all, taken_more, taken_none}
use Rattle.api_clients.proofs.PlatformOutcomes.{Left, first_left, next_left, next_outcome, outcome_there}
use Rattle.go_model.specs.declared.files.platform.Platform.TheVariants as platform
use Rattle.api_clients.proofs.clients.gathered.Goals as goal

pub loop-at-init : goal.loop-at-init
loop-at-init c = record {
  taken = taken_none c.args.trees.now.barred.now c.args.trees.now.tree.now c.args.trees.now.std_tree.now c.args.trees.now.client.now c.args.platforms.now c.new-all.result 0 c.new-all.ensures;
  left = first_left c.args.trees.now.barred.now c.args.trees.now.tree.now c.args.trees.now.std_tree.now c.args.trees.now.client.now c.args.firsts.now c.args.platforms.now c.args.outcomes _ (c.into_iter-rest.ensures.rest ∙ c.into_vec.ensures) c.requires.outcomes;
}

pub add_outcome-requires-clause-alike : goal.add_outcome-requires-clause-alike
add_outcome-requires-clause-alike c =
    alike_earlier c.args.trees.now.barred.now c.args.trees.now.tree.now c.args.trees.now.std_tree.now c.args.trees.now.client.now c.args.platforms.now c.args.firsts.now c.requires.firsts c.loop-at.at c.loop-at.all 0 0 c.loop-at-test.true c.loop-at.invariant.taken

pub add_outcome-requires-clause-outcome : goal.add_outcome-requires-clause-outcome
add_outcome-requires-clause-outcome c =
    outcome_there c.args.trees.now.barred.now c.args.trees.now.tree.now c.args.trees.now.std_tree.now c.args.trees.now.client.now c.args.platforms.now c.loop-at.at c.loop-at.all 0 0 c.loop-at-test.true c.loop-at.invariant.taken _ _ _
    (next_outcome c.args.trees.now.barred.now c.args.trees.now.tree.now c.args.trees.now.std_tree.now c.args.trees.now.client.now c.loop-at.at c.args.firsts.now c.args.platforms.now c.requires.firsts.many c.in-Some.outcome (into_iter_items c.next.new.self) c.loop-at.at _ (subst (λ w. Left c.args.trees.now.barred.now c.args.trees.now.tree.now c.args.trees.now.std_tree.now c.args.trees.now.client.now c.loop-at.at c.args.firsts.now c.args.platforms.now w c.loop-at.at) c.in-Some.ensures.items c.loop-at.invariant.left))

pub returns-in-Err : goal.returns-in-Err
returns-in-Err c =
    error_here c.args.trees.now.barred.now c.args.trees.now.tree.now c.args.trees.now.std_tree.now c.args.trees.now.client.now c.args.platforms.now c.loop-at.at _ c.loop-at.all 0 0 0 c.loop-at-test.true c.loop-at.invariant.taken (none_counted c.args.trees.now.barred.now c.args.trees.now.tree.now c.args.trees.now.std_tree.now c.args.trees.now.client.now (get_or c.args.platforms.now c.loop-at.at _ ∷ []) 0 0 refl) c.in-Err.error c.in-Err.ensures.answer

pub loop-at-preserved : goal.loop-at-preserved
loop-at-preserved c = record {
  taken = taken_more c.args.trees.now.barred.now c.args.trees.now.tree.now c.args.trees.now.std_tree.now c.args.trees.now.client.now c.args.platforms.now c.loop-at.at _ c.loop-at.all 0 0 0 c.loop-at-test.true c.loop-at.invariant.taken (none_counted c.args.trees.now.barred.now c.args.trees.now.tree.now c.args.trees.now.std_tree.now c.args.trees.now.client.now (get_or c.args.platforms.now c.loop-at.at _ ∷ []) 0 0 refl) c.add_outcome.new.answers c.in-Ok.ensures.answer;
  left = next_left c.args.trees.now.barred.now c.args.trees.now.tree.now c.args.trees.now.std_tree.now c.args.trees.now.client.now c.loop-at.at c.args.firsts.now c.args.platforms.now c.requires.firsts.many c.in-Some.outcome (into_iter_items c.next.new.self) c.loop-at.at platform.Linux386 (subst (λ w. Left c.args.trees.now.barred.now c.args.trees.now.tree.now c.args.trees.now.std_tree.now c.args.trees.now.client.now c.loop-at.at c.args.firsts.now c.args.platforms.now w c.loop-at.at) c.in-Some.ensures.items c.loop-at.invariant.left) c.in-Ok.ensures.goes_on;
}

pub returns : goal.returns
returns c = taken_all c.args.trees.now.barred.now c.args.trees.now.tree.now c.args.trees.now.std_tree.now c.args.trees.now.client.now c.args.platforms.now c.loop-at.at c.loop-at.all 0 0 c.loop-at-test.false c.loop-at.invariant.taken
