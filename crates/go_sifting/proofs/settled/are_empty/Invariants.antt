use Rattle.std.proofs.Common.{ℕ, ◌<◌}
use Rattle.go_base.specs.Lists.{Has}
use Rattle.go_graphs.specs.Walks.{row_of}
use Rattle.go_sifting.proofs.settled.are_empty.Given as goal

abbrev pub invariant-loop-number : goal.invariant-loop-number
invariant-loop-number l = (n m : ℕ) → n < l.number → Has (row_of l.rows n) m → ⊥
