use Rattle.std.proofs.Common.{ℕ, take}
use Rattle.go_base.specs.Lists.{Has}
use Rattle.go_graphs.specs.Walks.{LeadsTo}
use Rattle.go_graphs.proofs.circles.one_leads.Given as goal

abbrev pub invariant-loop-start : goal.invariant-loop-start
invariant-loop-start l = (m : ℕ) → Has (take l.start-index l.starts) m → LeadsTo l.rows m l.to → ⊥
