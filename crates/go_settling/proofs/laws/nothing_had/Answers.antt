use Rattle.go_settling.proofs.NothingHad.{nothing_had}
use Rattle.go_settling.proofs.laws.nothing_had.Goals as goal

pub returns : goal.returns
returns c s u = nothing_had s u
