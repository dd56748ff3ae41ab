use Rattle.go_package_scopes.proofs.SameAnswers.{asks_same, finds_same, names_same}
use Rattle.go_package_scopes.proofs.laws.same_answers.Goals as goal

pub returns-clause-asks : goal.returns-clause-asks
returns-clause-asks c = λ s u a scopes d n f is named. asks_same s u a scopes is named d n f

pub returns-clause-names : goal.returns-clause-names
returns-clause-names c = λ s u a scopes d f rs n is named. names_same s u a scopes is named d f rs n

pub returns-clause-finds : goal.returns-clause-finds
returns-clause-finds c = λ s u a scopes d f n is named. finds_same s u a scopes is named d f n
