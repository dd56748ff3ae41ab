use Rattle.api_inputs.proofs.InputAnswers.{others_error, tree_as, tree_error}
use Rattle.api_inputs.proofs.inputs.read_new.Goals as goal

pub returns-in-Err-clause-answer : goal.returns-in-Err-clause-answer
returns-in-Err-clause-answer g c = tree_error _ c.args.request.now _ _ _ c.in-Err.error c.bytes.ensures c.in-Err.ensures.answer

pub returns-in-Err-read_others-clause-answer : goal.returns-in-Err-read_others-clause-answer
returns-in-Err-read_others-clause-answer g c =
    others_error _ c.args.request.now _ c.in-Ok.tree _ _ _ c.in-Err-read_others.error c.module_tree.ensures.same c.module_tree.ensures.count (tree_as _ c.args.request.now _ c.in-Ok.tree c.bytes.ensures c.in-Ok.ensures.answer) c.in-Err-read_others.ensures.answer
