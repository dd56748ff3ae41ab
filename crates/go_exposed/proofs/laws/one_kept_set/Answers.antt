use Rattle.go_exposed.proofs.OneKeptSet.{one_entries, one_kept}
use Rattle.go_exposed.proofs.laws.one_kept_set.Goals as goal

pub returns-clause-within : goal.returns-clause-within
returns-clause-within c = λ s u S T a b k l n. one_kept s u S T a b k l n

pub returns-clause-entries : goal.returns-clause-entries
returns-clause-entries c = λ s u S T a b k l n. one_entries s u S T a b k l n
