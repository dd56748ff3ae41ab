use Rattle.go_client_typings.proofs.OneVetted.{client_apart, one_untyped}
use Rattle.go_client_typings.proofs.laws.one_place.Goals as goal

pub returns-clause-one : goal.returns-clause-one
returns-clause-one c s u blocks p q a b = one_untyped s u blocks p q a b

pub returns-clause-apart : goal.returns-clause-apart
returns-clause-apart c s u blocks p a b = client_apart s u blocks a p b
