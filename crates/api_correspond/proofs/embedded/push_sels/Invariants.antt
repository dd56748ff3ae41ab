use Rattle.std.proofs.Common.{take}
use Rattle.go_base.specs.Growing.{Grows}
use Rattle.api_correspond.specs.inner.Spreading.{IsFieldSel}
use Rattle.api_correspond.proofs.embedded.push_sels.Given as goal

abbrev pub invariant-loop-field : goal.invariant-loop-field
invariant-loop-field l = Grows (IsFieldSel (take l.field-index l.fields)) l.fn.sels.items l.sels.items
