use Rattle.api_further_breaks.specs.inner.Partners.{HoldBelow}
use Rattle.api_further_breaks.proofs.partners.shared.Given as goal

abbrev pub invariant-loop-at : goal.invariant-loop-at
invariant-loop-at l = HoldBelow l.is_old l.pairs l.at l.once.keys l.twice.keys
