use Rattle.std.proofs.Common.{◌≡◌, ℕ, true, take, get_or}
use Rattle.go_base.specs.Lists.{Has}
use Rattle.go_graphs.proofs.ranks.all_flagged.Given as goal

abbrev pub invariant-loop-number : goal.invariant-loop-number
invariant-loop-number l = (m : ℕ) → Has (take l.number-index l.row) m → get_or l.flags m true ≡ true
