use Rattle.std.proofs.Common.{take}
use Rattle.go_base.specs.Growing.{Grows}
use Rattle.api_correspond.specs.Publics.{types_of}
use Rattle.api_correspond.specs.inner.Leading.{ArePromoted}
use Rattle.api_correspond.proofs.members.push_promoted_fields.Given as goal

abbrev pub invariant-loop-sel : goal.invariant-loop-sel
invariant-loop-sel l = Grows (ArePromoted (types_of l.old) (types_of l.new) l.pair (take l.sel-index l.sel-items)) l.fn.pairs.items l.pairs.items
