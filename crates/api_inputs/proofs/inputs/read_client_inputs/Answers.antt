use Rattle.api_inputs.proofs.InputAnswers.{client_as, client_error, frozen_error}
use Rattle.api_inputs.proofs.inputs.read_client_inputs.Goals as goal

pub returns-in-Err-clause-answer : goal.returns-in-Err-clause-answer
returns-in-Err-clause-answer g c = client_error _ c.args.request.now _ _ _ c.in-Err.error c.as_ref.ensures.value c.in-Err.ensures.answer

pub returns-in-Err-read_frozen-clause-answer : goal.returns-in-Err-read_frozen-clause-answer
returns-in-Err-read_frozen-clause-answer g c =
    frozen_error _ c.args.request.now _ c.in-Ok.client _ _ _ c.in-Err-read_frozen.error c.client_tree.ensures.same c.client_tree.ensures.count (client_as _ c.args.request.now _ c.in-Ok.client c.as_ref.ensures.value c.in-Ok.ensures.answer) c.in-Err-read_frozen.ensures.answer
