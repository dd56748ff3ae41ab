use Rattle.std.proofs.Common.{length, take, ◌-◌, ◌≤◌}
use Rattle.go_outside.specs.Sinks.{Takes}
use Rattle.api_gate.proofs.reports.deliver.write_pieces.Given as goal

abbrev pub invariant-loop-at : goal.invariant-loop-at
invariant-loop-at g l = record {
  taken : Takes (g.S.Sink.told l.fn.sink) (take l.at l.bytes) (g.S.Sink.told l.sink);
  within : l.at ≤ length l.bytes;
  later : g.S.Sink.faults l.fn.sink ≤ g.S.Sink.faults l.sink;
}

abbrev pub decreases-loop-at : goal.decreases-loop-at
decreases-loop-at g l = length l.bytes - l.at
