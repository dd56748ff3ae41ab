use Rattle.go_package_scopes.proofs.ScopesOf.{scope_of}
use Rattle.go_package_scopes.proofs.laws.kept_scopes.Goals as goal

pub returns : goal.returns
returns c = scope_of
