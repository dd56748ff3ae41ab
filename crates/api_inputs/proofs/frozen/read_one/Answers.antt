use Rattle.api_inputs.proofs.FrozenLists.{error_of_one, one_file}
use Rattle.api_inputs.proofs.frozen.read_one.Goals as goal

pub returns-in-Err-clause-answer : goal.returns-in-Err-clause-answer
returns-in-Err-clause-answer g c = error_of_one _ _ _ _ _ _ c.in-Err.ensures.answer c.input_error.ensures

pub returns-in-Ok-clause-answer : goal.returns-in-Ok-clause-answer
returns-in-Ok-clause-answer g c = one_file _ _ _ c.in-Ok.ensures.answer
