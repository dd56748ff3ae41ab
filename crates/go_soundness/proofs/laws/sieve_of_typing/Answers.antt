use Rattle.go_soundness.proofs.TypingSieve.{all_had, all_through}
use Rattle.go_soundness.proofs.laws.sieve_of_typing.Goals as goal

pub returns-clause-all : goal.returns-clause-all
returns-clause-all c = λ s u a t. all_had s u a t

pub returns-clause-through : goal.returns-clause-through
returns-clause-through c = λ s u a t. all_through s u a t
