use Rattle.std.proofs.Common.{◌≡◌, ◌≤◌, ◌+◌, [], length}
use Rattle.work_sharing.specs.Results.{IsDone}
use Rattle.work_sharing.proofs.table.ResultTable.work.Given as goal

abbrev pub invariant-loop-i : goal.invariant-loop-i
invariant-loop-i g l = record {
  table : l.worker.table_id ≡ l.initial.worker.table_id;
  idle : l.worker.me.1 ≡ [];
  done : IsDone l.worker.me.0;
  steps : l.steps + length l.initial.worker.me.0.claimed ≤ l.initial.steps + length l.worker.me.0.claimed;
}
