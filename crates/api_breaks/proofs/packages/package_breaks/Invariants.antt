use Rattle.std.proofs.Common.{take, []}
use Rattle.go_base.specs.Growing.{Grows}
use Rattle.api_correspond.specs.inner.Members.{OfSome}
use Rattle.api_breaks.specs.inner.Objects.{IsOfPath}
use Rattle.api_breaks.proofs.packages.package_breaks.Given as goal

abbrev pub invariant-loop-path : goal.invariant-loop-path
invariant-loop-path l = Grows (OfSome (IsOfPath l.old l.new) (take l.path-index l.paths)) [] l.breaks.items
