use Rattle.std.proofs.Common.{◌≡◌, take}
use Rattle.api_findings.proofs.copies.breaks_copied.Given as goal

abbrev pub invariant-loop-broken : goal.invariant-loop-broken
invariant-loop-broken l = l.copy ≡ take l.broken-index l.breaks
