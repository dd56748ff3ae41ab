use Rattle.std.proofs.Common.{take}
use Rattle.api_correspond.specs.inner.Members.{OfSome}
use Rattle.api_breaks.specs.inner.Telling.{Tells, KeptBy}
use Rattle.api_further_breaks.specs.inner.Implementing.{KeepsOf, IsLostBy}
use Rattle.api_further_breaks.proofs.implementing.push_methods.Given as goal

abbrev pub invariant-loop-method : goal.invariant-loop-method
invariant-loop-method l = Tells (KeptBy (KeepsOf l.sealed.pairs.items l.sealed.places l.callable l.called) (take l.method-index l.methods)) (OfSome (IsLostBy l.sealed.pairs.items l.sealed.places l.callable l.called) (take l.method-index l.methods)) l.fn.losses.items l.losses.items
