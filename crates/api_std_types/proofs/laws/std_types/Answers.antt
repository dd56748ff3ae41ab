use Rattle.api_std_types.proofs.StdWorlds.{methods_stay, stands_alone}
use Rattle.api_std_types.proofs.laws.std_types.Goals as goal

pub returns-clause-alone : goal.returns-clause-alone
returns-clause-alone c = λ bits us w apart paths world. stands_alone bits us apart paths w world

pub returns-clause-stay : goal.returns-clause-stay
returns-clause-stay c = λ bits us w apart paths world. methods_stay bits us apart paths w world
