use Rattle.std.proofs.Common.{◌≡◌, ℕ, take, ◌⊎◌}
use Rattle.go_base.specs.Lists.{Has}
use Rattle.go_graphs.specs.Walks.{row_of}
use Rattle.go_graphs.proofs.rows.add_to_rows.Given as goal

abbrev pub invariant-loop-target : goal.invariant-loop-target
invariant-loop-target l = (n m : ℕ) → Has (row_of l.rows n) m → Has (row_of l.initial.rows n) m ⊎ (Has (take l.target-index l.targets) n × (m ≡ l.source))
