use Rattle.api_judge.proofs.OneVerdict as verdicts
use Rattle.api_judge.proofs.laws.one_verdict.Goals as goal

pub returns : goal.returns
returns c = verdicts.one_verdict
