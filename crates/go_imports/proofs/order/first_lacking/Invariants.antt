use Rattle.std.proofs.Common.{length, ◌-◌, ◌<◌, ◌≤◌, ℕ, get_or}
use Rattle.go_base.specs.Lists.{Has}
use Rattle.go_imports.proofs.order.first_lacking.Given as goal

abbrev pub invariant-loop-at : goal.invariant-loop-at
invariant-loop-at l = record {
  from : l.fn.from ≤ l.at;
  within : l.at ≤ length l.needs;
  stand : (k : ℕ) → l.fn.from ≤ k → k < l.at → Has l.standing.keys (get_or l.needs k 0);
}

abbrev pub decreases-loop-at : goal.decreases-loop-at
decreases-loop-at l = length l.needs - l.at
