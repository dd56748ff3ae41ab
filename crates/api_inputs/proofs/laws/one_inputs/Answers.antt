use Rattle.api_inputs.proofs.OneInputs.{inputs_or_refusal, same_inputs, same_refusal}
use Rattle.api_inputs.proofs.laws.one_inputs.Goals as goal

pub returns-clause-inputs : goal.returns-clause-inputs
returns-clause-inputs c = λ m r a b h k. same_inputs c.one_answer.ensures.module_answer c.one_answer.ensures.files_answer m r a b h k

pub returns-clause-refusal : goal.returns-clause-refusal
returns-clause-refusal c = λ m r a b h k. same_refusal c.one_answer.ensures.module_answer c.one_answer.ensures.files_answer m r a b h k

pub returns-clause-apart : goal.returns-clause-apart
returns-clause-apart c = λ m r a line h k. inputs_or_refusal c.one_answer.ensures.module_answer c.one_answer.ensures.files_answer m r a line h k
