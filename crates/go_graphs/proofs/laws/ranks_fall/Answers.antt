use Rattle.go_graphs.proofs.FallingRanks.{endless, falling_ranked, ranks_fall, walks_end}
use Rattle.go_graphs.proofs.laws.ranks_fall.Goals as goal

pub returns-clause-falls : goal.returns-clause-falls
returns-clause-falls c = λ rows flags is. ranks_fall rows flags is

pub returns-clause-ranked : goal.returns-clause-ranked
returns-clause-ranked c = λ rows S rank f g n i. falling_ranked rows S rank f g n i

pub returns-clause-ends : goal.returns-clause-ends
returns-clause-ends c = λ rows at w h. walks_end rows at w h

pub returns-clause-endless : goal.returns-clause-endless
returns-clause-endless c = λ rows flags n is l e. endless rows flags is n l e
