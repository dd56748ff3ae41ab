use Rattle.go_rules.proofs.OneFound.{one_found, one_method}
use Rattle.go_rules.proofs.laws.one_found.Goals as goal

pub returns-clause-found : goal.returns-clause-found
returns-clause-found c = λ E s t x y a b. one_found a b

pub returns-clause-method : goal.returns-clause-method
returns-clause-method c = λ E a b s t g h m n. one_method m n
