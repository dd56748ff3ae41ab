use Rattle.go_typings.specs.Assignments.{all_of}
use Rattle.go_typings.specs.Declarations.{declarations}
use Rattle.go_typings.proofs.OneTyping.{one_typing, typings_agree}
use Rattle.go_typings.proofs.laws.one_typing.Goals as goal

pub returns-clause-whole : goal.returns-clause-whole
returns-clause-whole c = λ s u a b t r. one_typing s u (all_of (declarations u)) a b t r

pub returns-clause-shared : goal.returns-clause-shared
returns-clause-shared c = λ s u S T a b t r. typings_agree s u S T a b t r
