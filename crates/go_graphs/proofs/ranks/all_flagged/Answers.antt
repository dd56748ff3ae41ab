use Rattle.std.proofs.Common.{◌≡◌, ℕ, true, get_or, subst, inl, inr}
use Rattle.go_graphs.proofs.Members.{has_at, has_more}
use Rattle.go_graphs.proofs.ranks.all_flagged.Goals as goal

pub returns-then-not-is_ranked-clause-no : goal.returns-then-not-is_ranked-clause-no
returns-then-not-is_ranked-clause-no c e h =
    let p = h (get_or c.args.row.now c.loop-number.number-index 0) (has_at c.args.row.now c.loop-number.number-index c.loop-number-test.true) in cc

pub loop-number-preserved : goal.loop-number-preserved
loop-number-preserved c m h =
    let q : get_or c.args.flags.now (get_or c.args.row.now c.loop-number.number-index 0) true ≡ true = cc in
    elim (has_more c.args.row.now c.loop-number.number-index m c.loop-number-test.true h) [
      | inl k ↦ c.loop-number.invariant m k
      | inr e ↦ subst (λ (z : ℕ). get_or c.args.flags.now z true ≡ true) e q
    ]
