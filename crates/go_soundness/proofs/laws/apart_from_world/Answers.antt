use Rattle.go_soundness.proofs.WorldsApart.{world_apart}
use Rattle.go_soundness.proofs.laws.apart_from_world.Goals as goal

pub returns : goal.returns
returns c s u w e h = world_apart s u w e h
