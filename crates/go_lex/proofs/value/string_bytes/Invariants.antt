use Rattle.std.proofs.Common.{length, ◌-◌}
use Rattle.go_lex.proofs.StringValues.{Decoded}
use Rattle.go_lex.proofs.value.string_bytes.Given as goal

abbrev pub invariant-loop-c : goal.invariant-loop-c
invariant-loop-c l = Decoded l.inner l.at l.out.items

abbrev pub decreases-loop-c : goal.decreases-loop-c
decreases-loop-c l = length l.inner - l.at
