use Rattle.go_typings.specs.PackageWorlds.{no_packages}
use Rattle.go_level_laws.proofs.AddedOrders.{in_any_order, paths_known}
use Rattle.go_level_laws.proofs.KnownWorlds.{added}
use Rattle.go_level_laws.proofs.LowerWorlds.{outcome_path}
use Rattle.go_level_laws.proofs.laws.any_order.Goals as goal

pub returns-clause-next : goal.returns-clause-next
returns-clause-next c = λ bits us level a n u x w own by none is b. added no_packages us a n u x own (paths_known bits us level a by) is none (outcome_path bits w u x b)

pub returns-clause-all : goal.returns-clause-all
returns-clause-all c = λ bits us level a ns own by once all. in_any_order bits us level a own by ns once all
