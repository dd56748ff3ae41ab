use Rattle.api_findings.proofs.FoundOn.{alone_count, alone_error}
use Rattle.api_findings.proofs.KeptFindings.{kept_answer, kept_left_out}
use Rattle.api_findings.proofs.next_found.features_next.Goals as goal

pub returns-in-Err-clause-answer : goal.returns-in-Err-clause-answer
returns-in-Err-clause-answer g c = alone_error c.args.trees.now.barred.now c.args.trees.now.tree.now c.args.trees.now.std_tree.now c.args.platform c.in-Err.error c.in-Err.ensures.answer

pub returns-in-Err-clause-steps : goal.returns-in-Err-clause-steps
returns-in-Err-clause-steps g c = alone_count c.args.trees.now.barred.now c.args.trees.now.tree.now c.args.trees.now.std_tree.now c.args.platform c.args.steps.now c.listed_next.new.steps c.listed_next.ensures.steps

pub returns-in-Ok-clause-answer : goal.returns-in-Ok-clause-answer
returns-in-Ok-clause-answer g c =
    kept_answer c.args.trees.now.barred.now c.args.trees.now.tree.now c.args.trees.now.std_tree.now c.args.platform c.in-Ok.new c.featured_kept.result c.in-Ok.ensures.answer.0 c.featured_kept.ensures.verdict c.featured_kept.ensures.lines c.featured_kept.ensures.none

pub returns-in-Ok-clause-steps : goal.returns-in-Ok-clause-steps
returns-in-Ok-clause-steps g c = alone_count c.args.trees.now.barred.now c.args.trees.now.tree.now c.args.trees.now.std_tree.now c.args.platform c.args.steps.now c.listed_next.new.steps c.listed_next.ensures.steps

pub returns-in-Ok-clause-left_out : goal.returns-in-Ok-clause-left_out
returns-in-Ok-clause-left_out g c =
    kept_left_out c.args.trees.now.barred.now c.args.trees.now.tree.now c.args.trees.now.std_tree.now c.args.platform c.in-Ok.new c.featured_kept.result c.in-Ok.ensures.answer.0 c.featured_kept.ensures.left_out

pub featured_kept-requires-clause-typed : goal.featured_kept-requires-clause-typed
featured_kept-requires-clause-typed g c = c.in-Ok.ensures.answer.1

pub featured_kept-requires-clause-lines : goal.featured_kept-requires-clause-lines
featured_kept-requires-clause-lines g c = c.in-Ok.ensures.answer.0.lines
