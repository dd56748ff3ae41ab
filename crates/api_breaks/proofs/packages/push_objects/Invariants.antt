use Rattle.std.proofs.Common.{take}
use Rattle.go_base.specs.Growing.{Grows}
use Rattle.api_breaks.specs.inner.Objects.{IsOfObjects}
use Rattle.api_breaks.proofs.packages.push_objects.Given as goal

abbrev pub invariant-loop-object : goal.invariant-loop-object
invariant-loop-object l = Grows (IsOfObjects l.path l.after (take l.object-index l.objects)) l.fn.breaks.items l.breaks.items
