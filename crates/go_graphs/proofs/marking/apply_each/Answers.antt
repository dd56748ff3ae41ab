use Rattle.std.proofs.Common.{Bool, refl, subst, sym, ◌+◌, arith}
use Rattle.go_graphs.specs.inner.Marking.{Passed, follows_itself}
use Rattle.go_graphs.proofs.Flagging.{follows_next, passed_next}
use Rattle.go_graphs.proofs.marking.apply_each.Goals as goal

pub loop-number-preserved : goal.loop-number-preserved
loop-number-preserved g c = record {
  follows = follows_next g.R.Rule.why c.args.rows.now c.args.flags.now c.loop-number.flags c.apply-applied.new.flags c.loop-number.number c.apply-applied.result c.loop-number.invariant.follows c.apply-applied.ensures;
  passed = subst (λ (m : Bool). Passed g.R.Rule.why c.args.rows.now c.args.flags.now (c.loop-number.number + 1) c.apply-applied.new.flags m) (sym c.either-moved.ensures)
      (passed_next g.R.Rule.why c.args.rows.now c.args.flags.now c.loop-number.flags c.apply-applied.new.flags c.loop-number.number c.loop-number.moved c.apply-applied.result c.loop-number.invariant.passed c.apply-applied.ensures);
}

pub loop-number-init : goal.loop-number-init
loop-number-init g c = record { follows = follows_itself; passed = (refl, λ m l. absurd (omega (arith, l))) }
