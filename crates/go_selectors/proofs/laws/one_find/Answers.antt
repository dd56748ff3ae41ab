use Rattle.go_selectors.proofs.UniqueFind.{from_once, found_once, signature_once}
use Rattle.go_selectors.proofs.laws.one_find.Goals as goal

pub returns-clause-from : goal.returns-clause-from
returns-clause-from c = λ T s at hidden a b f g. from_once T s at hidden a b f g

pub returns-clause-find : goal.returns-clause-find
returns-clause-find c = found_once

pub returns-clause-signature : goal.returns-clause-signature
returns-clause-signature c = λ T t s g h a b. signature_once T s t g h a b
