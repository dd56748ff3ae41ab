use Rattle.std.proofs.Common.{take}
use Rattle.go_base.specs.Growing.{Grows}
use Rattle.api_correspond.specs.inner.Leading.{IsCommonField}
use Rattle.api_correspond.proofs.members.push_common_fields.Given as goal

abbrev pub invariant-loop-field : goal.invariant-loop-field
invariant-loop-field l = Grows (IsCommonField (take l.field-index l.before) l.after) l.fn.pairs.items l.pairs.items
