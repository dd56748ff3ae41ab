use Rattle.go_exposed.proofs.WorldOrRefusal.{world_or_refusal}
use Rattle.go_exposed.proofs.laws.world_or_refusal.Goals as goal

pub returns : goal.returns
returns c bits us xs w b k = world_or_refusal bits us xs w b k
