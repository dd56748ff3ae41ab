use Rattle.api_subjects.proofs.EachTold.{told_some}
use Rattle.api_subjects.proofs.laws.each_told.Goals as goal

pub returns : goal.returns
returns c = told_some
