use Rattle.std.proofs.Common.{take}
use Rattle.go_base.specs.Growing.{Grows}
use Rattle.api_correspond.specs.inner.Leading.{AreFieldsAt}
use Rattle.api_correspond.proofs.members.push_field.Given as goal

abbrev pub invariant-loop-at : goal.invariant-loop-at
invariant-loop-at l = Grows (AreFieldsAt l.field l.after (take l.at-index l.places)) l.fn.pairs.items l.pairs.items
