use Rattle.std.proofs.Common.{take}
use Rattle.api_breaks.specs.inner.Pairs.{KeepsIn, IsFieldGone}
use Rattle.api_correspond.specs.inner.Members.{OfSome}
use Rattle.api_breaks.specs.inner.Telling.{Tells, KeptBy}
use Rattle.api_breaks.proofs.pairs.push_all_fields.Given as goal

abbrev pub invariant-loop-field : goal.invariant-loop-field
invariant-loop-field l = Tells (KeptBy (KeepsIn l.after) (take l.field-index l.before)) (OfSome (IsFieldGone l.after) (take l.field-index l.before)) l.fn.losses.items l.losses.items
