use Rattle.std.proofs.Common.{drop}
use Rattle.go_clauses.proofs.Ranging.{NewFrom}
use Rattle.go_clauses.proofs.targets.is_new.Given as goal

abbrev pub invariant-loop-name : goal.invariant-loop-name
invariant-loop-name l = NewFrom (drop l.name-index l.names) l.names
