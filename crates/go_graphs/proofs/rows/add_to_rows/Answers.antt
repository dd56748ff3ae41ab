use Rattle.std.proofs.Common.{◌+◌, take, subst, sym, inl, inr}
use Rattle.go_base.specs.Lists.{Has}
use Rattle.go_graphs.proofs.Members.{has_before, has_next}
use Rattle.go_graphs.proofs.rows.add_to_rows.Goals as goal

pub loop-target-preserved : goal.loop-target-preserved
loop-target-preserved c n m h =
    elim (c.in_ok-add_to_row.ensures n m h) [
      | inl k ↦ elim (c.loop-target.invariant n m k) [ inl a ↦ inl a | inr b ↦ inr (has_before c.args.targets.now c.loop-target.target-index n b.0, b.1) ]
      | inr p ↦ inr (subst (Has (take (c.loop-target.target-index + 1) c.args.targets.now)) (sym p.0) (has_next c.args.targets.now c.loop-target.target-index c.loop-target-test.true), p.1)
    ]
