use Rattle.go_world_outcomes.proofs.SkippedOutcomes.{skips_there}
use Rattle.go_world_outcomes.proofs.laws.skips_exist.Goals as goal

pub returns : goal.returns
returns c = λ bits us w i. skips_there bits us w i
