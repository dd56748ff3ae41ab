use Rattle.std.proofs.Common.{◌≡◌, ◌≤◌, ◌+◌, ◌++◌, ℕ, Some, length, slice_get}
use Rattle.std.specs.Vec.Iter.{into_iter_items}
use Rattle.work_sharing.specs.Results.{empty_rows}
use Rattle.work_sharing.proofs.map.completed.Given as goal

abbrev pub invariant-loop-row : goal.invariant-loop-row
invariant-loop-row g l = record {
  number : l.number ≡ length l.yielded;
  parts : l.yielded ++ into_iter_items l.row-iterator ≡ l.fn.rows;
  len : length l.results ≡ length l.yielded;
  good : (j : ℕ) (x : g.row.T.Denot) → slice_get l.results j ≡ Some x → g.J.Jobs.gives l.fn.jobs j x;
  steps : l.steps ≤ l.initial.steps + empty_rows l.yielded;
}
