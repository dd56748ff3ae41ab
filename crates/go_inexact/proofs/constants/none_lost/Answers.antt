use Rattle.std.proofs.Common.{◌≡◌, ℕ, false, get_or, inl, inr, subst}
use Rattle.go_graphs.specs.Flags.{is_flagged}
use Rattle.go_graphs.proofs.Members.{has_at, has_more}
use Rattle.go_inexact.proofs.constants.none_lost.Goals as goal

pub returns-then-flag : goal.returns-then-flag
returns-then-flag c = λ h. (let p = h (get_or c.args.row.now c.loop-number.number-index 0) (has_at c.args.row.now c.loop-number.number-index c.loop-number-test.true) in cc)

pub loop-number-preserved : goal.loop-number-preserved
loop-number-preserved c m h =
    let q : is_flagged c.args.lost.now (get_or c.args.row.now c.loop-number.number-index 0) ≡ false = cc in
    elim (has_more c.args.row.now c.loop-number.number-index m c.loop-number-test.true h) [
      | inl k ↦ c.loop-number.invariant m k
      | inr e ↦ subst (λ (z : ℕ). is_flagged c.args.lost.now z ≡ false) e q
    ]
