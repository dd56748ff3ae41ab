use Rattle.std.proofs.Common.{take}
use Rattle.api_further_breaks.proofs.Indexing.{NoneOf}
use Rattle.api_further_breaks.proofs.sealed.first_sealing.Given as goal

abbrev pub invariant-loop-method : goal.invariant-loop-method
invariant-loop-method l = NoneOf l.world (take l.method-index l.methods)
