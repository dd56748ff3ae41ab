use Rattle.std.proofs.Common.{◌≡◌, ℕ, true, get_or, subst, sym, inl, inr}
use Rattle.go_graphs.specs.Flags.{is_flagged}
use Rattle.go_graphs.proofs.Members.{has_at, has_more}
use Rattle.go_graphs.proofs.marks.any_flagged.Goals as goal

pub returns-then-flag-clause-yes : goal.returns-then-flag-clause-yes
returns-then-flag-clause-yes c e =
    let q : is_flagged c.args.flags.now (get_or c.args.row.now c.loop-number.number-index 0) ≡ true = cc in
    (get_or c.args.row.now c.loop-number.number-index 0, has_at c.args.row.now c.loop-number.number-index c.loop-number-test.true, q)

pub loop-number-preserved : goal.loop-number-preserved
loop-number-preserved c m h f =
    elim (has_more c.args.row.now c.loop-number.number-index m c.loop-number-test.true h) [
      | inl k ↦ c.loop-number.invariant m k f
      | inr e ↦ (let g = subst (λ (z : ℕ). is_flagged c.args.flags.now z ≡ true) (sym e) f in cc)
    ]
