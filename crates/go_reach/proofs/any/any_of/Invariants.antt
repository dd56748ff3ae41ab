use Rattle.go_reach.specs.AnyFlags.{AreAny}
use Rattle.go_reach.proofs.any.any_of.Given as goal

abbrev pub invariant-loop-number : goal.invariant-loop-number
invariant-loop-number l = AreAny l.first l.second l.third l.number l.flags.items
