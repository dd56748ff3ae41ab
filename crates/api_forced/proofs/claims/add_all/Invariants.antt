use Rattle.std.proofs.Common.{take}
use Rattle.api_forced.specs.inner.Claims.{AddsClaims, LedClaims}
use Rattle.api_forced.proofs.claims.add_all.Given as goal

abbrev pub invariant-loop-pair : goal.invariant-loop-pair
invariant-loop-pair l = AddsClaims (LedClaims l.own.items l.leader (take l.pair-index l.numbers)) l.fn.claims.keys l.claims.keys
