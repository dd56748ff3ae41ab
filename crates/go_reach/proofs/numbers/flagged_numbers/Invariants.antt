use Rattle.go_reach.specs.Numbers.{AreFlagged}
use Rattle.go_reach.proofs.numbers.flagged_numbers.Given as goal

abbrev pub invariant-loop-place : goal.invariant-loop-place
invariant-loop-place l = AreFlagged l.flags l.place l.numbers.items
