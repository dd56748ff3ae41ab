use Rattle.go_types.proofs.Interfaces.{same_implement}
use Rattle.go_types.proofs.laws.same_interfaces.Goals as goal

pub returns : goal.returns
returns c = λ T t i ms e f once bare. same_implement T t i ms e f once bare
