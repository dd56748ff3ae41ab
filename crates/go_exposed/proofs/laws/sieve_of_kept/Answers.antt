use Rattle.go_exposed.proofs.KeptFromSieve.{entries_through, kept_through, through_closed, through_typing}
use Rattle.go_exposed.proofs.laws.sieve_of_kept.Goals as goal

pub returns-clause-closed : goal.returns-clause-closed
returns-clause-closed c = λ s u a lost apart A F. through_closed s u a lost apart A F

pub returns-clause-typing : goal.returns-clause-typing
returns-clause-typing c = λ s u a lost apart A F. through_typing s u a lost apart A F

pub returns-clause-within : goal.returns-clause-within
returns-clause-within c = λ s u a lost S b n apart A F k. kept_through s u a lost apart A F S b k n

pub returns-clause-entries : goal.returns-clause-entries
returns-clause-entries c = λ s u a lost S b n apart A F k. entries_through s u a lost apart A F S b k n
