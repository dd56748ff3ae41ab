use Rattle.go_check.proofs.lost.sifted.Goals as goal

pub returns-clause-lost : goal.returns-clause-lost
returns-clause-lost c s u a same pathed scope standing = c.sift.ensures s u a (c.in_ok-graph.ensures.graph s u a same pathed scope) standing
