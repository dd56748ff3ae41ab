use Rattle.api_findings.proofs.FoundOn.{new_error}
use Rattle.api_findings.proofs.next_found.verdict_after.Goals as goal

pub returns-in-Err-clause-answer : goal.returns-in-Err-clause-answer
returns-in-Err-clause-answer g c = new_error c.args.trees.now.barred.now c.args.trees.now.tree.now c.args.trees.now.std_tree.now c.args.platform c.args.old_tree.now c.args.old.now.typed.world c.requires.old.world c.in-Err.error c.in-Err.ensures.answer

pub verdict_kept-requires-clause-new : goal.verdict_kept-requires-clause-new
verdict_kept-requires-clause-new g c = c.in-Ok.ensures.answer.0

pub verdict_kept-requires-clause-typed : goal.verdict_kept-requires-clause-typed
verdict_kept-requires-clause-typed g c = c.in-Ok.ensures.answer.1
