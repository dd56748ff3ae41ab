use Rattle.std.proofs.Common.{◌≡◌, take}
use Rattle.go_check.specs.inner.Entered.{entered}
use Rattle.go_check.proofs.entered.entered.Given as goal

abbrev pub invariant-loop-number : goal.invariant-loop-number
invariant-loop-number l = l.flags.items ≡ entered (take l.number l.had)
