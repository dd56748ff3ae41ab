use Rattle.go_exposed.proofs.OneWorld.{whole_world}
use Rattle.go_unit_worlds.proofs.JoinedInTurn.{no_world, none_there, world_in_turn}
use Rattle.go_unit_worlds.proofs.laws.worlds_of_units.Goals as goal

pub returns-clause-offered : goal.returns-clause-offered
returns-clause-offered c = λ bits us w o h i. world_in_turn bits i.become no_world o h (none_there us)

pub returns-clause-whole : goal.returns-clause-whole
returns-clause-whole c = λ bits us w o h i. world_in_turn bits (whole_world bits us w i).become no_world o h (none_there us)
