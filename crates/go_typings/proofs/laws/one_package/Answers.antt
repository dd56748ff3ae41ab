use Rattle.go_typings.proofs.OnePackage.{one_package}
use Rattle.go_typings.proofs.laws.one_package.Goals as goal

pub returns : goal.returns
returns c s u p q x y = one_package s u p q x y
