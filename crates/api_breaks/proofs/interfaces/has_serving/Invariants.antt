use Rattle.std.proofs.Common.{take}
use Rattle.api_breaks.proofs.InterfaceLosses.{ServesSome}
use Rattle.api_breaks.proofs.interfaces.has_serving.Given as goal

abbrev pub invariant-loop-at : goal.invariant-loop-at
invariant-loop-at l = ServesSome l.world l.methods l.method (take l.at-index l.same) → ⊥
