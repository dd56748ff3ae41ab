use Rattle.std.proofs.Common.{◌≡◌, ℕ, true, List, set, subst, sym}
use Rattle.go_reach.specs.inner.Search.{Meets}
use Rattle.go_reach.proofs.Searching.{met_new}
use Rattle.go_reach.proofs.reached.meet.Goals as goal

pub returns-in_ok-push : goal.returns-in_ok-push
returns-in_ok-push c =
    subst (λ (xs : List ℕ). Meets (λ n. c.args.number ≡ n) c.args.flags.now c.args.pending.now.items (set c.args.flags.now c.args.number true) xs) (sym c.in_ok-push.ensures.items)
    (met_new c.args.flags.now c.args.pending.now.items c.args.number c.if-place-flags.true)
