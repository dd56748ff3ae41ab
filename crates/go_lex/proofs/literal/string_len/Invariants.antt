use Rattle.std.proofs.Common.{length, ◌-◌}
use Rattle.go_lex.proofs.Literals.{StringTo}
use Rattle.go_lex.proofs.literal.string_len.Given as goal

abbrev pub invariant-loop-c : goal.invariant-loop-c
invariant-loop-c l = StringTo l.behind l.at

abbrev pub decreases-loop-c : goal.decreases-loop-c
decreases-loop-c l = length l.behind - l.at
