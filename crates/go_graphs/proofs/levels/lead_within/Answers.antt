use Rattle.std.proofs.Common.{ℕ, List, ◌<◌, ap, ◌∙◌, sym, subst, length, arith}
use Rattle.go_base.specs.Lists.{Each}
use Rattle.go_graphs.specs.Walks.{LeadsInto}
use Rattle.go_graphs.proofs.LevelWalks.{led_to}
use Rattle.go_graphs.proofs.levels.lead_within.Goals as goal

pub all_lead-requires-2 : goal.all_lead-requires-2
all_lead-requires-2 c = subst (λ (k : ℕ). Each (λ n. n < k) c.args.roots.now) (sym (ap length c.deref.ensures.value ∙ c.in_ok-turned.ensures.size)) c.requires

pub returns : goal.returns
returns c e n l =
    let v = ap length c.deref.ensures.value in
    let s = c.in_ok-turned.ensures.size in
    (c.in_ok-all_lead.ensures c.if-not-branch.false n l, led_to c.in_ok-turned.ensures (subst (λ (xs : List (List ℕ)). LeadsInto xs c.args.roots.now n) c.deref.ensures.value (c.in_ok-back.ensures e n (omega (arith, l, v, s)))))
