use Rattle.go_exposed.proofs.WholePackages.{kept_whole, offered_typed, typed_offered}
use Rattle.go_exposed.proofs.laws.whole_package.Goals as goal

pub returns-clause-kept : goal.returns-clause-kept
returns-clause-kept c = λ s u a t. kept_whole s u a t

pub returns-clause-offered : goal.returns-clause-offered
returns-clause-offered c = λ s u p t. typed_offered s u p t

pub returns-clause-typed : goal.returns-clause-typed
returns-clause-typed c = λ s u a p t found o. offered_typed s u a p t found o
