use Rattle.std.proofs.Common.{◌≤◌, subst, ℕ, get_or, inl, inr, arith}
use Rattle.go_imports.proofs.Cycles.{has_more}
use Rattle.go_imports.proofs.cycle.needs_fall.Goals as goal

pub loop-need-preserved : goal.loop-need-preserved
loop-need-preserved c n m =
    elim (has_more c.args.needs.now c.loop-need.need-index n c.loop-need-test.true m) [
      | inl h ↦ c.loop-need.invariant n h
      | inr e ↦ subst (λ (k : ℕ). get_or c.args.levels.now k 0 ≤ c.args.level) e (omega (arith, c.level_of.ensures, c.if-level_of-level.false))
    ]
