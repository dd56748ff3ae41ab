use Rattle.std.proofs.Common.{◌≡◌, ◌<◌, ◌≤◌, ℕ, length, get_or}
use Rattle.go_declared.proofs.headed.short_head.Given as goal

abbrev pub invariant-loop-i : goal.invariant-loop-i
invariant-loop-i l = (length l.front ≡ 8) × ((k : ℕ) → k < l.i → get_or l.front k 0 ≡ get_or l.bytes k 0) × ((k : ℕ) → l.i ≤ k → get_or l.front k 0 ≡ 0)
