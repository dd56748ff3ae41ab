use Rattle.std.proofs.Common.{◌≤◌}
use Rattle.api_clients.proofs.outcomes.fresh_in.Given as goal

abbrev pub invariant-loop-at : goal.invariant-loop-at
invariant-loop-at l = l.fresh ≤ l.at
