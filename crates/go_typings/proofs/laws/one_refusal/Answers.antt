use Rattle.go_typings.proofs.OneRefusal.{one_refusal, typed_or_refused}
use Rattle.go_typings.proofs.laws.one_refusal.Goals as goal

pub returns-clause-cause : goal.returns-clause-cause
returns-clause-cause c = λ s u q r k l. one_refusal s u q r k l

pub returns-clause-apart : goal.returns-clause-apart
returns-clause-apart c = λ s u p r t k. typed_or_refused s u p r t k
