use Rattle.std.proofs.Common.{take}
use Rattle.go_base.specs.Growing.{Grows}
use Rattle.api_correspond.specs.inner.Leading.{AreCalledIn}
use Rattle.api_correspond.proofs.members.push_methods.Given as goal

abbrev pub invariant-loop-method : goal.invariant-loop-method
invariant-loop-method l = Grows (AreCalledIn l.callable (take l.method-index l.methods)) l.fn.pairs.items l.pairs.items
