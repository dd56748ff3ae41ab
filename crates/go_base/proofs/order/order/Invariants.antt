use Rattle.std.proofs.Common.{◌≡◌, length, nat_cmp}
use Rattle.std.specs.Cmp.Lexicographic.{slice_cmp}
use Rattle.go_base.proofs.order.order.Given as goal

abbrev pub invariant-loop-left_word : goal.invariant-loop-left_word
invariant-loop-left_word l = slice_cmp nat_cmp l.left_rest l.right_rest ≡ slice_cmp nat_cmp l.left l.right

abbrev pub decreases-loop-left_word : goal.decreases-loop-left_word
decreases-loop-left_word l = length l.left_rest
