use Rattle.go_exposed.proofs.WholePackages.{same_missing, same_unsound}
use Rattle.go_exposed.proofs.laws.same_refusals.Goals as goal

pub returns-clause-redeclared : goal.returns-clause-redeclared
returns-clause-redeclared c = λ s u q k. k

pub returns-clause-missing : goal.returns-clause-missing
returns-clause-missing c = λ s u q h k. same_missing s u q h k

pub returns-clause-unsound : goal.returns-clause-unsound
returns-clause-unsound c = λ s u q h k. same_unsound s u q h k
