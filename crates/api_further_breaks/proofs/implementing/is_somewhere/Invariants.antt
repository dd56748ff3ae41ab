use Rattle.std.proofs.Common.{take}
use Rattle.api_further_breaks.specs.inner.Sealed.{AreNowhere}
use Rattle.api_further_breaks.proofs.implementing.is_somewhere.Given as goal

abbrev pub invariant-loop-method : goal.invariant-loop-method
invariant-loop-method l = AreNowhere l.places (take l.method-index l.methods)
