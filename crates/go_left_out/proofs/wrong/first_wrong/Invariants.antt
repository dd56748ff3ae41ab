use Rattle.std.proofs.Common.{◌≡◌, ◌<◌, ℕ, false}
use Rattle.go_left_out.specs.WrongFlags.{is_wrong}
use Rattle.go_left_out.proofs.wrong.first_wrong.Given as goal

abbrev pub invariant-loop-number : goal.invariant-loop-number
invariant-loop-number l = (m : ℕ) → m < l.number → is_wrong l.lost l.seen l.beyond m ≡ false
