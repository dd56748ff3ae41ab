use Rattle.std.proofs.Common.{take}
use Rattle.api_breaks.specs.inner.Interfaces.{WasMethod, IsMethodNew}
use Rattle.api_correspond.specs.inner.Members.{OfSome}
use Rattle.api_breaks.specs.inner.Telling.{Tells, KeptBy}
use Rattle.api_breaks.proofs.interfaces.push_all_new.Given as goal

abbrev pub invariant-loop-method : goal.invariant-loop-method
invariant-loop-method l = Tells (KeptBy (WasMethod l.before) (take l.method-index l.after)) (OfSome (IsMethodNew l.before) (take l.method-index l.after)) l.fn.losses.items l.losses.items
