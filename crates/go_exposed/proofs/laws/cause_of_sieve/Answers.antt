use Rattle.go_exposed.proofs.BeyondSieve.{beyond_told, inexact_told, told_beyond, told_inexact}
use Rattle.go_exposed.proofs.OneSkipped.{cause_same}
use Rattle.go_exposed.specs.BeyondProfile.{IsBeyond}
use Rattle.go_exposed.specs.Causes.{IsInexactConstant, IsToldInexact}
use Rattle.go_exposed.specs.ToldBeyond.{IsToldBeyond}
use Rattle.go_exposed.proofs.laws.cause_of_sieve.Goals as goal

pub returns-clause-tells : goal.returns-clause-tells
returns-clause-tells c = λ s u a lost n x apart A F k. cause_same u (IsToldInexact s u a lost) (IsToldBeyond s u a lost) (IsInexactConstant s u) (IsBeyond s u)
    (told_inexact s u a lost apart A F) (inexact_told s u a lost apart A F) (λ m b. told_beyond s u a lost apart A F b) (λ m b. beyond_told s u a lost apart A F b) n x k

pub returns-clause-told : goal.returns-clause-told
returns-clause-told c = λ s u a lost n x apart A F k. cause_same u (IsInexactConstant s u) (IsBeyond s u) (IsToldInexact s u a lost) (IsToldBeyond s u a lost)
    (inexact_told s u a lost apart A F) (told_inexact s u a lost apart A F) (λ m b. beyond_told s u a lost apart A F b) (λ m b. told_beyond s u a lost apart A F b) n x k
