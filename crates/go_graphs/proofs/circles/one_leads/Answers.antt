use Rattle.std.proofs.Common.{ℕ, get_or, subst, sym, inl, inr}
use Rattle.go_graphs.specs.Walks.{LeadsTo}
use Rattle.go_graphs.proofs.Members.{has_at, has_more}
use Rattle.go_graphs.proofs.circles.one_leads.Goals as goal

pub loop-start-preserved : goal.loop-start-preserved
loop-start-preserved c m h w =
    elim (has_more c.args.starts.now c.loop-start.start-index m c.loop-start-test.true h) [
      | inl k ↦ c.loop-start.invariant m k w
      | inr e ↦ c.in_ok-leads.ensures.no c.if-branch.false (subst (λ (z : ℕ). LeadsTo c.args.rows.now z c.args.to) (sym e) w)
    ]

pub returns-then-branch-clause-yes : goal.returns-then-branch-clause-yes
returns-then-branch-clause-yes c e =
    (get_or c.args.starts.now c.loop-start.start-index 0, has_at c.args.starts.now c.loop-start.start-index c.loop-start-test.true, c.in_ok-leads.ensures.yes c.if-branch.true)
