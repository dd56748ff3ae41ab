use Rattle.std.proofs.Common.{take}
use Rattle.api_breaks.specs.inner.Selecting.{KeepsSel, IsSelLoss}
use Rattle.api_correspond.specs.inner.Members.{OfSome}
use Rattle.api_breaks.specs.inner.Telling.{Tells, KeptBy}
use Rattle.api_breaks.proofs.selectable.push_sels.Given as goal

abbrev pub invariant-loop-sel : goal.invariant-loop-sel
invariant-loop-sel l = Tells (KeptBy (KeepsSel l.old l.new l.pair) (take l.sel-index l.sel-items)) (OfSome (IsSelLoss l.old l.new l.pair) (take l.sel-index l.sel-items)) l.fn.losses.items l.losses.items
