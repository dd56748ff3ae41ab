use Rattle.go_exposed.proofs.KeptNames.{no_defined, no_object, own_object}
use Rattle.go_exposed.proofs.laws.kept_names.Goals as goal

pub returns-clause-kept : goal.returns-clause-kept
returns-clause-kept c = λ s u p o name d e i. own_object s u p o name d e i

pub returns-clause-object : goal.returns-clause-object
returns-clause-object c = λ s u p o name d e f. no_object s u p o name d e f

pub returns-clause-defined : goal.returns-clause-defined
returns-clause-defined c = λ s u p o name d e f. no_defined s u p o name d e f
