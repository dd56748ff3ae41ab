use Rattle.api_further_breaks.proofs.NoBreak.{kept_whole}
use Rattle.api_further_breaks.proofs.laws.no_break.Goals as goal

pub returns : goal.returns
returns c = kept_whole
