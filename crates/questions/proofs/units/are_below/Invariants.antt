use Rattle.std.proofs.Common.{take, ◌<◌}
use Rattle.go_base.specs.Lists.{Each}
use Rattle.questions.proofs.units.are_below.Given as goal

abbrev pub invariant-loop-number : goal.invariant-loop-number
invariant-loop-number l = Each (λ n. n < l.end) (take l.number-index l.numbers)
