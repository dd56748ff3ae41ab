use Rattle.std.proofs.Common.{◌≡◌, ℕ, true, get_or, subst, inl, inr}
use Rattle.go_graphs.specs.Flags.{is_flagged}
use Rattle.go_graphs.proofs.Members.{has_at, has_more}
use Rattle.go_sifting.proofs.settled.is_among.Goals as goal

pub returns-then-not-flag-clause-no : goal.returns-then-not-flag-clause-no
returns-then-not-flag-clause-no c e h =
    let p = h (get_or c.args.row.now c.loop-number.number-index 0) (has_at c.args.row.now c.loop-number.number-index c.loop-number-test.true) in cc

pub loop-number-preserved : goal.loop-number-preserved
loop-number-preserved c m h =
    let q : is_flagged c.args.flags.now (get_or c.args.row.now c.loop-number.number-index 0) ≡ true = cc in
    elim (has_more c.args.row.now c.loop-number.number-index m c.loop-number-test.true h) [
      | inl k ↦ c.loop-number.invariant m k
      | inr e ↦ subst (λ (z : ℕ). is_flagged c.args.flags.now z ≡ true) e q
    ]
