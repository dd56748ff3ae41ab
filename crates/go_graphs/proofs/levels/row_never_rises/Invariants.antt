use Rattle.std.proofs.Common.{ℕ, ◌≤◌, take}
use Rattle.go_base.specs.Lists.{Has}
use Rattle.go_graphs.specs.inner.Components.{level_of}
use Rattle.go_graphs.proofs.levels.row_never_rises.Given as goal

abbrev pub invariant-loop-number : goal.invariant-loop-number
invariant-loop-number l = (m : ℕ) → Has (take l.number-index l.row) m → level_of l.levels m ≤ l.from
