use Rattle.api_break_outcomes.proofs.ToldBreaks.{breaks_listed}
use Rattle.api_break_outcomes.proofs.laws.breaks_listed.Goals as goal

pub returns : goal.returns
returns c = λ old new. breaks_listed c.one_way.ensures old new
