use Rattle.std.proofs.Common.{take}
use Rattle.go_base.specs.Lists.{Has}
use Rattle.go_reach.specs.inner.Search.{Meets}
use Rattle.go_reach.proofs.reached.meet_row.Given as goal

abbrev pub invariant-loop-number : goal.invariant-loop-number
invariant-loop-number l = Meets (Has (take l.number-index l.row)) l.initial.flags l.initial.pending.items l.flags l.pending.items
