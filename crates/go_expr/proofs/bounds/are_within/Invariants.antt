use Rattle.std.proofs.Common.{drop}
use Rattle.go_expr.proofs.Bounding.{WithinFrom}
use Rattle.go_expr.proofs.bounds.are_within.Given as goal

abbrev pub invariant-loop-term : goal.invariant-loop-term
invariant-loop-term l = WithinFrom l.terms (drop l.term-index l.terms)
