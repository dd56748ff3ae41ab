use Rattle.api_forced.proofs.Claiming.{Claiming}
use Rattle.api_forced.proofs.claims.claims.Given as goal

abbrev pub invariant-loop-at : goal.invariant-loop-at
invariant-loop-at l = Claiming l.own.items l.next.items l.roots.items l.at l.claims.keys
