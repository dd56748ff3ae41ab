use Rattle.api_subjects.proofs.OneSubject.{told_once}
use Rattle.api_subjects.proofs.laws.one_way.Goals as goal

pub returns : goal.returns
returns c = told_once
