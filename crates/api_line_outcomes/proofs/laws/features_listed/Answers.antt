use Rattle.api_line_outcomes.proofs.LineLists.{features_listed}
use Rattle.api_line_outcomes.proofs.laws.features_listed.Goals as goal

pub returns : goal.returns
returns c = λ w. features_listed w
