use Rattle.go_declared.specs.inner.NextAliases.{AreSteps}
use Rattle.go_declared.proofs.aliases.staying.Given as goal

abbrev pub invariant-loop-number : goal.invariant-loop-number
invariant-loop-number l = AreSteps l.number (λ i. i) l.numbers.items
