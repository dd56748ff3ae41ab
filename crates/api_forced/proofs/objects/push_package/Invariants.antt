use Rattle.std.proofs.Common.{take}
use Rattle.go_base.specs.Growing.{Grows}
use Rattle.api_forced.specs.inner.Objects.{IsOfPackage}
use Rattle.api_forced.proofs.objects.push_package.Given as goal

abbrev pub invariant-loop-object : goal.invariant-loop-object
invariant-loop-object l = Grows (IsOfPackage l.path l.after (take l.object-index l.objects)) l.fn.all.items l.all.items
