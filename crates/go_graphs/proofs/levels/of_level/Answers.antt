use Rattle.std.proofs.Common.{subst, sym, inl, inr}
use Rattle.go_base.specs.Lists.{Has}
use Rattle.go_graphs.proofs.Members.{has_at}
use Rattle.go_graphs.proofs.levels.of_level.Goals as goal

pub loop-number-preserved : goal.loop-number-preserved
loop-number-preserved c m h =
    elim (c.in_ok-add_of_level.ensures m h) [
      | inl k ↦ c.loop-number.invariant m k
      | inr p ↦ (subst (Has c.args.row.now) (sym p.0) (has_at c.args.row.now c.loop-number.number-index c.loop-number-test.true), p.1)
    ]
