use Rattle.std.proofs.Common.{◌≤◌, ℕ, subst, inl, inr, arith}
use Rattle.go_graphs.specs.inner.Components.{level_of}
use Rattle.go_graphs.proofs.Members.{has_more}
use Rattle.go_graphs.proofs.levels.row_never_rises.Goals as goal

pub loop-number-preserved : goal.loop-number-preserved
loop-number-preserved c m h =
    elim (has_more c.args.row.now c.loop-number.number-index m c.loop-number-test.true h) [
      | inl k ↦ c.loop-number.invariant m k
      | inr e ↦ subst (λ (z : ℕ). level_of c.args.levels.now z ≤ c.args.from) e (omega (arith, c.level.ensures, c.if-level-from.false))
    ]
