use Rattle.std.proofs.Common.{take}
use Rattle.api_breaks.specs.inner.Interfaces.{KeepsMethod, IsMethodGone}
use Rattle.api_correspond.specs.inner.Members.{OfSome}
use Rattle.api_breaks.specs.inner.Telling.{Tells, KeptBy}
use Rattle.api_breaks.proofs.interfaces.push_all_gone.Given as goal

abbrev pub invariant-loop-method : goal.invariant-loop-method
invariant-loop-method l = Tells (KeptBy (KeepsMethod l.old l.after) (take l.method-index l.before)) (OfSome (IsMethodGone l.old l.after) (take l.method-index l.before)) l.fn.losses.items l.losses.items
