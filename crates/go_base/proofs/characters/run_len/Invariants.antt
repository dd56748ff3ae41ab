use Rattle.std.proofs.Common.{length, ◌-◌}
use Rattle.go_base.specs.Alphabets.{has}
use Rattle.go_base.proofs.Runs.{Running}
use Rattle.go_base.proofs.characters.run_len.Given as goal

abbrev pub invariant-loop-len : goal.invariant-loop-len
invariant-loop-len l = Running (has l.alphabet) l.bytes l.at

abbrev pub decreases-loop-len : goal.decreases-loop-len
decreases-loop-len l = length l.bytes - l.at
