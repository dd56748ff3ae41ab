use Rattle.api_outcomes.proofs.InputOutcomes.{inputs_end}
use Rattle.api_outcomes.proofs.laws.inputs_or_refusal.Goals as goal

pub returns : goal.returns
returns c = λ m r. inputs_end m r
