use Rattle.std.proofs.Common.{◌≡◌, ◌++◌, drop, map}
use Rattle.go_rules.specs.Operands.{plain}
use Rattle.go_clauses.proofs.targets.values_of.Given as goal

abbrev pub invariant-loop-term : goal.invariant-loop-term
invariant-loop-term l = l.values ++ map plain (drop l.term-index l.terms) ≡ map plain l.terms
