use Rattle.std.proofs.Common.{length, ◌-◌}
use Rattle.go_tags.proofs.HeaderScans.{Scanning}
use Rattle.go_tags.proofs.lines.scan_header.Given as goal

abbrev pub invariant-loop-len : goal.invariant-loop-len
invariant-loop-len l = Scanning l.bytes l.at l.is_open l.lines

abbrev pub decreases-loop-len : goal.decreases-loop-len
decreases-loop-len l = length l.bytes - l.at
