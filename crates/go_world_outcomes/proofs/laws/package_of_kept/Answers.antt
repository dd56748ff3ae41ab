use Rattle.go_world_outcomes.proofs.TypedPackages.{kept_package}
use Rattle.go_world_outcomes.proofs.laws.package_of_kept.Goals as goal

pub returns : goal.returns
returns c = λ s u S a t. kept_package s u S a t
