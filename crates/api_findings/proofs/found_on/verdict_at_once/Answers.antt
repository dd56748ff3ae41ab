use Rattle.std.proofs.Common.{subst, arith}
use Rattle.api_findings.proofs.FoundOn.{old_error, pair_count}
use Rattle.api_findings.specs.inner.Sides.{AnswersListed}
use Rattle.api_texts.specs.declared.lines.Side.TheVariants as side
use Rattle.api_findings.proofs.found_on.verdict_at_once.Goals as goal

pub both_on-before-requires-clause-old : goal.both_on-before-requires-clause-old
both_on-before-requires-clause-old g c κs within = record { is_tree = c.requires.old.0; is_std = c.requires.trees.is_std; is_named = c.requires.old.1; is_barred = c.requires.old.2 }

pub returns-in-Err-clause-answer : goal.returns-in-Err-clause-answer
returns-in-Err-clause-answer g c = old_error c.args.trees.now.barred.now c.args.trees.now.tree.now c.args.trees.now.std_tree.now c.args.platform c.args.old_tree.now c.in-Err.error (subst (AnswersListed c.args.trees.now.barred.now c.args.old_tree.now c.args.trees.now.std_tree.now side.Old c.args.platform) c.in-Err.is c.both_on-before.ensures.old)

pub returns-in-Err-clause-steps : goal.returns-in-Err-clause-steps
returns-in-Err-clause-steps g c = pair_count c.args.trees.now.barred.now c.args.trees.now.tree.now c.args.trees.now.std_tree.now c.args.platform c.args.old_tree.now c.args.steps.now _ _ _ c.both_on-before.ensures.old_steps c.both_on-before.ensures.new_steps (omega (arith, c.merge.ensures, c.merge-2.ensures))

pub returns-in-Ok-clause-steps : goal.returns-in-Ok-clause-steps
returns-in-Ok-clause-steps g c = pair_count c.args.trees.now.barred.now c.args.trees.now.tree.now c.args.trees.now.std_tree.now c.args.platform c.args.old_tree.now c.args.steps.now _ _ _ c.both_on-before.ensures.old_steps c.both_on-before.ensures.new_steps (omega (arith, c.merge.ensures, c.merge-2.ensures))

pub verdict_with-requires-clause-old : goal.verdict_with-requires-clause-old
verdict_with-requires-clause-old g c = subst (AnswersListed c.args.trees.now.barred.now c.args.old_tree.now c.args.trees.now.std_tree.now side.Old c.args.platform) c.in-Ok.is c.both_on-before.ensures.old
