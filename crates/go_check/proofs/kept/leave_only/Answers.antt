use Rattle.std.proofs.Common.{◌<◌, ◌∙◌, None, ap, arith, nat_eq, refl}
use Rattle.std.specs.Prelude.{◌&&◌, if◌then◌else◌}
use Rattle.go_graphs.specs.Flags.{is_flagged}
use Rattle.go_check.proofs.LeftEntries.{left_all, left_next, left_none}
use Rattle.go_check.proofs.kept.leave_only.Goals as goal

pub loop-number-init : goal.loop-number-init
loop-number-init c = record {
  count = refl;
  kept = λ n. left_none c.args.lost.now n _;
}

pub loop-number-preserved : goal.loop-number-preserved
loop-number-preserved c = record {
  count = c.leave.ensures.count ∙ c.loop-number.invariant.count;
  kept = λ n.
      c.leave.ensures.kept n ∙ ap (λ x. if nat_eq n c.loop-number.number && is_flagged c.args.lost.now c.loop-number.number then None else x) (c.loop-number.invariant.kept n)
      ∙ left_next c.args.lost.now n c.loop-number.number _;
}

pub returns-clause-kept : goal.returns-clause-kept
returns-clause-kept c n h =
    let e = c.count-count.ensures in
    let f = c.loop-number-test.false in
    let l : n < c.loop-number.number = omega (arith, h, e, f) in
    c.loop-number.invariant.kept n ∙ left_all c.args.lost.now n c.loop-number.number _ l
