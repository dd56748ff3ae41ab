use Rattle.std.proofs.Common.{take}
use Rattle.go_base.specs.Lists.{Each}
use Rattle.worlds.specs.inner.Admission.{DeclaredKept}
use Rattle.worlds.proofs.admission.Admission.declared_methods.Given as goal

abbrev pub invariant-loop-method : goal.invariant-loop-method
invariant-loop-method l = Each (DeclaredKept l.self.world.now l.self.added.now) (take l.method-index l.methods)
