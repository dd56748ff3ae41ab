use Rattle.std.proofs.Common.{take}
use Rattle.go_inexact.specs.inner.NoneLost.{NoneIsLost}
use Rattle.go_inexact.proofs.constants.none_lost.Given as goal

abbrev pub invariant-loop-number : goal.invariant-loop-number
invariant-loop-number l = NoneIsLost l.lost (take l.number-index l.row)
