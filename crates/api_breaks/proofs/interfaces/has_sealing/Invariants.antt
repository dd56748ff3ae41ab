use Rattle.std.proofs.Common.{take}
use Rattle.api_breaks.specs.inner.Interfaces.{HasSealing}
use Rattle.api_breaks.proofs.interfaces.has_sealing.Given as goal

abbrev pub invariant-loop-method : goal.invariant-loop-method
invariant-loop-method l = HasSealing l.world (take l.method-index l.methods) → ⊥
