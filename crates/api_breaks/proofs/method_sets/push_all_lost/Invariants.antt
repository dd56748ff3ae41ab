use Rattle.std.proofs.Common.{take}
use Rattle.api_breaks.specs.inner.MethodSets.{KeepsCalled, IsLostIn}
use Rattle.api_correspond.specs.inner.Members.{OfSome}
use Rattle.api_breaks.specs.inner.Telling.{Tells, KeptBy}
use Rattle.api_breaks.proofs.method_sets.push_all_lost.Given as goal

abbrev pub invariant-loop-method : goal.invariant-loop-method
invariant-loop-method l = Tells (KeptBy (KeepsCalled l.old l.callable) (take l.method-index l.methods)) (OfSome (IsLostIn l.old l.callable) (take l.method-index l.methods)) l.fn.losses.items l.losses.items
