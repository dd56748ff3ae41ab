use Rattle.go_package_scopes.proofs.KeptObjects.{objects_more}
use Rattle.go_package_scopes.proofs.laws.kept_objects.Goals as goal

pub returns : goal.returns
returns c = objects_more
