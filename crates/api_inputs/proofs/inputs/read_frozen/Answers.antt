use Rattle.api_inputs.proofs.InputAnswers.{api_error, api_lines, except_error}
use Rattle.api_inputs.proofs.inputs.read_frozen.Goals as goal

pub returns-in-Err-clause-answer : goal.returns-in-Err-clause-answer
returns-in-Err-clause-answer g c = api_error _ c.args.request.now _ _ _ c.in-Err.error c.items.ensures c.in-Err.ensures.answer

pub returns-in-Err-read_exceptions-clause-answer : goal.returns-in-Err-read_exceptions-clause-answer
returns-in-Err-read_exceptions-clause-answer g c =
    except_error _ c.args.request.now _ _ c.in-Ok.required _ _ _ c.in-Err-read_exceptions.error c.read_files.ensures.same c.as_ref.ensures.value c.read_files.ensures.count
    (api_lines _ c.args.request.now _ _ c.items.ensures c.in-Ok.ensures.answer) c.in-Err-read_exceptions.ensures.answer
