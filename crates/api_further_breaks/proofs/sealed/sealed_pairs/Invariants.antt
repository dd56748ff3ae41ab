use Rattle.api_further_breaks.specs.inner.Sealed.{HoldSealedBelow}
use Rattle.api_further_breaks.proofs.sealed.sealed_pairs.Given as goal

abbrev pub invariant-loop-at : goal.invariant-loop-at
invariant-loop-at l = HoldSealedBelow l.old l.new l.pairs l.at l.sealed
