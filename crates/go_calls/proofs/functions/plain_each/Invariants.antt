use Rattle.std.proofs.Common.{◌≡◌, map, take}
use Rattle.go_rules.specs.Operands.{plain}
use Rattle.go_calls.proofs.functions.plain_each.Given as goal

abbrev pub invariant-loop-term : goal.invariant-loop-term
invariant-loop-term l = l.operands ≡ map plain (take l.term-index l.terms)
