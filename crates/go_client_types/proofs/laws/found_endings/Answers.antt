use Rattle.go_client_types.proofs.FoundEnds.{found}
use Rattle.go_client_types.proofs.laws.found_endings.Goals as goal

pub returns : goal.returns
returns c = λ E F r pairs std is_open K t h s x n b q d g o. found E F r pairs std is_open K t s b q d g h x n o
