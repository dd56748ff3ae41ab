use Rattle.go_package_scopes.proofs.KeptTypes.{type_elsewhere, type_more}
use Rattle.go_package_scopes.proofs.laws.kept_type.Goals as goal

pub returns-clause-first : goal.returns-clause-first
returns-clause-first c = λ s u a scopes n d spec t e keeps fresh at form. type_more s u a scopes n d spec t keeps fresh at form e

pub returns-clause-other : goal.returns-clause-other
returns-clause-other c = type_elsewhere
