use Rattle.go_exposed.proofs.WholePackages.{typed_offered}
use Rattle.go_typed_packages.proofs.Shapes.{package_shaped}
use Rattle.go_typed_packages.proofs.laws.shaped.Goals as goal

pub returns : goal.returns
returns c s u p t = package_shaped s u p (typed_offered s u p t)
