use Rattle.std.proofs.Common.{take}
use Rattle.go_base.specs.Lists.{Each}
use Rattle.worlds.specs.inner.Admission.{ObjectKept}
use Rattle.worlds.proofs.admission.Admission.objects.Given as goal

abbrev pub invariant-loop-object : goal.invariant-loop-object
invariant-loop-object l = Each (ObjectKept l.self.world.now l.self.added.now) (take l.object-index l.objects)
