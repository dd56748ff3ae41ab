use Rattle.go_package_scopes.proofs.SameEnvironments.{given_there, scope_gives_back, scope_has}
use Rattle.go_package_scopes.proofs.laws.same_environment.Goals as goal

pub returns-clause-grows : goal.returns-clause-grows
returns-clause-grows c = λ s u a scopes d is named. scope_gives_back s u a scopes is named d

pub returns-clause-back : goal.returns-clause-back
returns-clause-back c = λ s u a scopes d is named. scope_has s u a scopes is named d

pub returns-clause-given : goal.returns-clause-given
returns-clause-given c = λ s u a scopes d f x is named. given_there s u a scopes is named d f x
