use Rattle.go_exposed.specs.KeptDeclarations.{entries_of, not_lost}
use Rattle.go_exposed.proofs.KeptFromSieve.{sieve_kept, sieve_refused}
use Rattle.go_exposed.proofs.laws.offered_or_refused.Goals as goal

pub returns-clause-kept : goal.returns-clause-kept
returns-clause-kept c = λ s u a lost apart A F idle. sieve_kept s u a lost apart A F idle

pub returns-clause-offered : goal.returns-clause-offered
returns-clause-offered c = λ s u a lost p apart once found A F idle k. record { once = once; found = found; within = not_lost u lost; entries = entries_of (not_lost u lost) a; kept = sieve_kept s u a lost apart A F idle; «package» = k }

pub returns-clause-refused : goal.returns-clause-refused
returns-clause-refused c = λ s u a lost n p apart once found A F e counts before k. sieve_refused s u a lost apart A F n p once found e counts before k
