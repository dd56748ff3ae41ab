use Rattle.go_soundness.proofs.Ranked.{has_rank, no_rank}
use Rattle.go_soundness.proofs.laws.ranks_tell.Goals as goal

pub returns-clause-some : goal.returns-clause-some
returns-clause-some c = λ s u a ranks n r k e. has_rank s u a ranks k n r e

pub returns-clause-none : goal.returns-clause-none
returns-clause-none c = λ s u a ranks n k l e h. no_rank s u a ranks k n l e h
