use Rattle.std.proofs.Common.{take, []}
use Rattle.go_base.specs.Growing.{Grows}
use Rattle.api_correspond.specs.inner.Members.{OfSome}
use Rattle.api_forced.specs.inner.Objects.{IsOfPath}
use Rattle.api_forced.proofs.objects.object_pairs.Given as goal

abbrev pub invariant-loop-path : goal.invariant-loop-path
invariant-loop-path l = Grows (OfSome (IsOfPath l.old l.new) (take l.path-index l.paths)) [] l.all.items
