use Rattle.go_exposed.proofs.OneCause.{offered_or_refused, one_cause}
use Rattle.go_exposed.proofs.OneOffer.{one_offer}
use Rattle.go_exposed.proofs.laws.one_offer.Goals as goal

pub returns-clause-offer : goal.returns-clause-offer
returns-clause-offer c = λ s u p q x y. one_offer s u p q x y

pub returns-clause-cause : goal.returns-clause-cause
returns-clause-cause c = λ s u q r x y. one_cause s u q r x y

pub returns-clause-apart : goal.returns-clause-apart
returns-clause-apart c = λ s u p r x y. offered_or_refused s u p r x y
