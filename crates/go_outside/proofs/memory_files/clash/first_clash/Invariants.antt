use Rattle.go_outside.specs.inner.SortedPairs.{IsClearBelow}
use Rattle.go_outside.proofs.memory_files.clash.first_clash.Given as goal

abbrev pub invariant-loop-at : goal.invariant-loop-at
invariant-loop-at l = IsClearBelow l.pairs l.at
