use Rattle.api_inputs.proofs.InputAnswers.{new_error, old_as, old_error}
use Rattle.api_inputs.proofs.inputs.read_inputs.Goals as goal

pub returns-in-Err-clause-answer : goal.returns-in-Err-clause-answer
returns-in-Err-clause-answer g c = old_error _ c.args.request.now _ _ _ c.in-Err.error c.as_ref.ensures.value c.in-Err.ensures.answer

pub returns-in-Err-read_new-clause-answer : goal.returns-in-Err-read_new-clause-answer
returns-in-Err-read_new-clause-answer g c =
    new_error _ c.args.request.now c.in-Ok.old_tree (old_as _ c.args.request.now _ c.in-Ok.old_tree c.as_ref.ensures.value c.in-Ok.ensures.answer) _ _ _ _ c.in-Err-read_new.error c.old_tree.ensures.same c.old_tree.ensures.count c.in-Err-read_new.ensures.answer
