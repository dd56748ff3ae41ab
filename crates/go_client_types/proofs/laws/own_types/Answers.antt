use Rattle.go_client_types.proofs.Own.{own_ends, own_found}
use Rattle.go_client_types.proofs.laws.own_types.Goals as goal

pub returns-clause-ends : goal.returns-clause-ends
returns-clause-ends c = λ T U r O s k b t h. own_ends T U r O s k b t h

pub returns-clause-found : goal.returns-clause-found
returns-clause-found c = λ T U r O s d b t e h o. own_found T U r O s d b t e h o
