use Rattle.go_shared_types.proofs.Scopes.{keeps}
use Rattle.go_shared_types.proofs.laws.shared_scopes.Goals as goal

pub returns : goal.returns
returns c = λ E F std is_open P. keeps E F std is_open P
