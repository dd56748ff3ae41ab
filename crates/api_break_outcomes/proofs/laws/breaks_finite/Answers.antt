use Rattle.api_break_outcomes.proofs.BreakSets.{breaks_finite}
use Rattle.api_break_outcomes.proofs.laws.breaks_finite.Goals as goal

pub returns : goal.returns
returns c = λ old new. breaks_finite old new
