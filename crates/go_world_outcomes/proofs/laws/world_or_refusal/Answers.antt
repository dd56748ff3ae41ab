use Rattle.go_world_outcomes.proofs.WorldOutcomes.{world_ends}
use Rattle.go_world_outcomes.proofs.laws.world_or_refusal.Goals as goal

pub returns : goal.returns
returns c = λ bits units paths. world_ends bits units paths
