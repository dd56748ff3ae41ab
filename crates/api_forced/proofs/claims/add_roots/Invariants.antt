use Rattle.std.proofs.Common.{take}
use Rattle.api_forced.specs.inner.Claims.{AddsClaims, RootClaims}
use Rattle.api_forced.proofs.claims.add_roots.Given as goal

abbrev pub invariant-loop-root : goal.invariant-loop-root
invariant-loop-root l = AddsClaims (RootClaims l.own.items (take l.root-index l.root-items)) l.fn.claims.keys l.claims.keys
