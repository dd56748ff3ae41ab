use Rattle.std.proofs.Common.{◌≡◌, ℕ, length}
use Rattle.go_base.specs.Lists.{Has}
use Rattle.go_graphs.specs.Walks.{row_of}
use Rattle.go_graphs.specs.inner.Components.{level_of}
use Rattle.go_graphs.proofs.levels.within_levels.Given as goal

abbrev pub invariant-loop-number : goal.invariant-loop-number
invariant-loop-number l = record {
  size : length l.inner.items ≡ l.number;
  step : (n m : ℕ) → Has (row_of l.inner.items n) m → Has (row_of l.rows n) m × (level_of l.levels m ≡ level_of l.levels n);
}
