use Rattle.go_declared.specs.inner.NextAliases.{AreSteps, step}
use Rattle.go_declared.proofs.aliases.composed.Given as goal

abbrev pub invariant-loop-number : goal.invariant-loop-number
invariant-loop-number l = AreSteps l.number (λ i. step l.second (step l.first i)) l.numbers.items
