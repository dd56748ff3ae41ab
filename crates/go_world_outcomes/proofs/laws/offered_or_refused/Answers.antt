use Rattle.go_world_outcomes.proofs.PackageOutcomes.{offered_or_refused}
use Rattle.go_world_outcomes.proofs.laws.offered_or_refused.Goals as goal

pub returns : goal.returns
returns c = λ s u w some new. offered_or_refused s u w some new
