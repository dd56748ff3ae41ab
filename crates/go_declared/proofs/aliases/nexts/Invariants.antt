use Rattle.go_declared.specs.inner.NextAliases.{AreSteps, next}
use Rattle.go_declared.proofs.aliases.nexts.Given as goal

abbrev pub invariant-loop-number : goal.invariant-loop-number
invariant-loop-number l = AreSteps l.number (next l.names l.aliased) l.numbers.items
