use Rattle.go_level_laws.proofs.Orders.{skips_of_levels, world_of_levels}
use Rattle.go_level_laws.proofs.laws.world_by_levels.Goals as goal

pub returns-clause-world : goal.returns-clause-world
returns-clause-world c = λ bits us level a o rises by all. world_of_levels bits us o.own_paths o.paths o.rises level rises a by all

pub returns-clause-skipped : goal.returns-clause-skipped
returns-clause-skipped c = λ bits us level a xss o rises by all l k. skips_of_levels bits us o.own_paths o.paths o.rises level rises a by all xss l k
