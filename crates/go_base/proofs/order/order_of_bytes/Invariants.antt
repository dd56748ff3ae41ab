use Rattle.std.proofs.Common.{◌≡◌, ◌≤◌, ◌-◌, min, length, drop, nat_cmp}
use Rattle.std.specs.Cmp.Lexicographic.{slice_cmp}
use Rattle.go_base.proofs.order.order_of_bytes.Given as goal

abbrev pub invariant-loop-i : goal.invariant-loop-i
invariant-loop-i l = (l.i-end ≡ min (length l.left) (length l.right)) × (l.i ≤ l.i-end) × (slice_cmp nat_cmp (drop l.i l.left) (drop l.i l.right) ≡ slice_cmp nat_cmp l.left l.right)

abbrev pub decreases-loop-i : goal.decreases-loop-i
decreases-loop-i l = l.i-end - l.i
