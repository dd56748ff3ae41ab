use Rattle.go_typed_packages.proofs.Shapes.{package_shaped}
use Rattle.go_typed_packages.proofs.offered.shaped.Goals as goal

pub returns : goal.returns
returns c s u p t = package_shaped s u p t
