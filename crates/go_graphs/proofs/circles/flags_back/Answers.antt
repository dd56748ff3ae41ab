use Rattle.std.proofs.Common.{ℕ, List, ◌+◌, subst, sym}
use Rattle.go_base.specs.Lists.{Has}
use Rattle.go_graphs.specs.Flags.{AreFlagsOf}
use Rattle.go_graphs.specs.Walks.{LeadsBack}
use Rattle.go_graphs.proofs.Pushed.{flags_next}
use Rattle.go_graphs.proofs.circles.flags_back.Goals as goal

pub loop-number-preserved : goal.loop-number-preserved
loop-number-preserved c =
    subst (AreFlagsOf (c.loop-number.number + 1) (LeadsBack c.args.rows.now c.args.starts.now)) (sym c.in_ok-push.ensures.items)
    (flags_next c.loop-number.number (LeadsBack c.args.rows.now c.args.starts.now) c.loop-number.flags.items c.in_ok-leads.leads c.loop-number.invariant
    (λ e. let k = c.in_ok-leads.ensures.yes e in (k.0, subst (λ (r : List ℕ). Has r k.0) c.row.ensures k.1, k.2))
    (λ e p. c.in_ok-leads.ensures.no e p.0 (subst (λ (r : List ℕ). Has r p.0) (sym c.row.ensures) p.1) p.2))
