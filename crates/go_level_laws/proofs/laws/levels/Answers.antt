use Rattle.go_unit_worlds.proofs.go_std_worlds_proofs.OwnPaths.{own_paths}
use Rattle.go_level_laws.proofs.SomeLevels.{some_levels}
use Rattle.go_level_laws.proofs.UnitLevels.{one_level, units_rise}
use Rattle.go_level_laws.proofs.laws.levels.Goals as goal

pub returns-clause-some : goal.returns-clause-some
returns-clause-some c = λ us o. some_levels us o

pub returns-clause-one : goal.returns-clause-one
returns-clause-one c = λ us f g n a b l. one_level us f g n a b l

pub returns-clause-order : goal.returns-clause-order
returns-clause-order c = λ units paths. record { own_paths = own_paths units; paths = paths; rises = units_rise units }
