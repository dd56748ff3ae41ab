use Rattle.std.proofs.Common.{take}
use Rattle.go_base.specs.Lists.{Each}
use Rattle.worlds.specs.inner.Admission.{DefinedKept}
use Rattle.worlds.proofs.admission.Admission.all_defined.Given as goal

abbrev pub invariant-loop-defined : goal.invariant-loop-defined
invariant-loop-defined l = Each (DefinedKept l.self.world.now l.self.added.now) (take l.defined-index l.types)
