use Rattle.go_unit_worlds.proofs.SharedWorlds.{all_held, all_same}
use Rattle.go_unit_worlds.proofs.laws.shared_packages.Goals as goal

pub returns-clause-same : goal.returns-clause-same
returns-clause-same c = λ bits us vs w v o n x y same a b path p q e f. all_same bits us vs w v o n x y same a b path p q e f

pub returns-clause-held : goal.returns-clause-held
returns-clause-held c = λ bits us vs w v o n y among a b path p e. all_held bits us vs w v o n y among a b path p e
