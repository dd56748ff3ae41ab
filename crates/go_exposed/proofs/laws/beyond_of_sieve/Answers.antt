use Rattle.go_exposed.proofs.BeyondSieve.{beyond_told, told_beyond}
use Rattle.go_exposed.proofs.laws.beyond_of_sieve.Goals as goal

pub returns-clause-tells : goal.returns-clause-tells
returns-clause-tells c = λ s u a lost n apart A F k. told_beyond s u a lost apart A F k

pub returns-clause-told : goal.returns-clause-told
returns-clause-told c = λ s u a lost n apart A F k. beyond_told s u a lost apart A F k
