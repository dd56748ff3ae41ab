use Rattle.std.proofs.Common.{take}
use Rattle.api_correspond.specs.inner.Members.{OfSome}
use Rattle.api_breaks.specs.inner.Telling.{Tells, KeptBy}
use Rattle.api_further_breaks.specs.inner.Implementing.{KeepsAt, IsLostAt}
use Rattle.api_further_breaks.proofs.implementing.push_places.Given as goal

abbrev pub invariant-loop-at : goal.invariant-loop-at
invariant-loop-at l = Tells (KeptBy (KeepsAt l.sealed l.callable l.called) (take l.at-index l.places)) (OfSome (IsLostAt l.sealed l.callable l.called) (take l.at-index l.places)) l.fn.losses.items l.losses.items
