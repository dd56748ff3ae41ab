use Rattle.go_graphs.specs.Flags.{AreFlagsOf}
use Rattle.go_graphs.specs.Walks.{LeadsBack}
use Rattle.go_graphs.proofs.circles.flags_back.Given as goal

abbrev pub invariant-loop-number : goal.invariant-loop-number
invariant-loop-number l = AreFlagsOf l.number (LeadsBack l.rows l.starts) l.flags.items
