use Rattle.go_exposed.proofs.KeptObjects.{object_declared}
use Rattle.go_exposed.proofs.KeptTypes.{kept_type}
use Rattle.go_exposed.proofs.laws.kept_types.Goals as goal

pub returns-clause-object : goal.returns-clause-object
returns-clause-object c = λ s u p d o h. object_declared u o.entries p o.«package» d h

pub returns-clause-names : goal.returns-clause-names
returns-clause-names c = λ s u p o n d apart h e f. kept_type s u apart p o n d h e f
