use Rattle.std.proofs.Common.{◌+◌, ℕ, Option, subst, sym, take}
use Rattle.go_reach.proofs.LeastOthers.{least_next}
use Rattle.go_reach.specs.LeastOthers.{IsLeastOther}
use Rattle.go_reach.proofs.least.least_other.Goals as goal

pub loop-number-preserved : goal.loop-number-preserved
loop-number-preserved c =
    subst (λ (o : Option ℕ). IsLeastOther (take (c.loop-number.number-index + 1) c.args.row.now) c.args.flags.now c.args.own o) (sym c.with_next-least.ensures)
    (least_next c.args.flags.now c.args.own c.args.row.now c.loop-number.number-index c.loop-number-test.true c.loop-number.least c.loop-number.invariant)
