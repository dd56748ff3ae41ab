use Rattle.go_world_outcomes.proofs.TypedPackages.{package_of}
use Rattle.go_world_outcomes.proofs.laws.package_of_typing.Goals as goal

pub returns : goal.returns
returns c = λ s u a t. package_of s u a t
