use Rattle.api_advice.proofs.OneNext.{same_next}
use Rattle.api_advice.proofs.laws.one_next.Goals as goal

pub returns : goal.returns
returns c = same_next
