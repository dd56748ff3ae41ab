use Rattle.api_inputs.proofs.InputAnswers.{client_inputs_error, std_as, std_error}
use Rattle.api_inputs.proofs.inputs.read_others.Goals as goal

pub returns-in-Err-clause-answer : goal.returns-in-Err-clause-answer
returns-in-Err-clause-answer g c = std_error _ c.args.request.now _ _ _ c.in-Err.error c.as_ref.ensures.value c.in-Err.ensures.answer

pub returns-in-Err-read_client_inputs-clause-answer : goal.returns-in-Err-read_client_inputs-clause-answer
returns-in-Err-read_client_inputs-clause-answer g c =
    client_inputs_error _ c.args.request.now _ c.in-Ok.std_tree _ _ _ c.in-Err-read_client_inputs.error c.std_tree.ensures.same c.std_tree.ensures.count (std_as _ c.args.request.now _ c.in-Ok.std_tree c.as_ref.ensures.value c.in-Ok.ensures.answer) c.in-Err-read_client_inputs.ensures.answer
