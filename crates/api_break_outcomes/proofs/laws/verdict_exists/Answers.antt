use Rattle.api_break_outcomes.proofs.VerdictOutcomes.{verdict_there}
use Rattle.api_break_outcomes.proofs.laws.verdict_exists.Goals as goal

pub returns : goal.returns
returns c = λ old new. verdict_there c.one_way.ensures c.each_told.ensures old new
