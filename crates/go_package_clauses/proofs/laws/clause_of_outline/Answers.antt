use Rattle.go_package_clauses.proofs.Clauses.{clause_told}
use Rattle.go_package_clauses.proofs.laws.clause_of_outline.Goals as goal

pub returns : goal.returns
returns c = λ bytes header tokens f h t o. clause_told bytes header tokens f h t o
