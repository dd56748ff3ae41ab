use Rattle.std.proofs.Common.{length, ◌-◌}
use Rattle.go_lex.proofs.ScanState.{IsScanned}
use Rattle.go_lex.proofs.scan.scan.Given as goal

abbrev pub invariant-loop-at : goal.invariant-loop-at
invariant-loop-at l = IsScanned l.bytes l.initial.at l.emitter.tokens l.at l.emitter.pending

abbrev pub decreases-loop-at : goal.decreases-loop-at
decreases-loop-at l = length l.bytes - l.at
