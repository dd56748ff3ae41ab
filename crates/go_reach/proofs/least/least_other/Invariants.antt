use Rattle.std.proofs.Common.{take}
use Rattle.go_reach.specs.LeastOthers.{IsLeastOther}
use Rattle.go_reach.proofs.least.least_other.Given as goal

abbrev pub invariant-loop-number : goal.invariant-loop-number
invariant-loop-number l = IsLeastOther (take l.number-index l.row) l.flags l.own l.least
