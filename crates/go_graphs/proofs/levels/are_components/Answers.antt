use Rattle.std.proofs.Common.{ℕ, List, ◌<◌, ap, subst, length, arith}
use Rattle.go_base.specs.Lists.{Has}
use Rattle.go_graphs.specs.Walks.{LeadsInto}
use Rattle.go_graphs.specs.inner.Components.{IsLedTo}
use Rattle.go_graphs.proofs.LevelWalks.{leads_within}
use Rattle.go_graphs.proofs.Pushed.{each_of}
use Rattle.go_graphs.proofs.levels.are_components.Goals as goal

pub lead_within-requires : goal.lead_within-requires
lead_within-requires c = each_of (λ n. n < length c.deref-2.result.now) c.deref-3.result.now (λ n h.
    let b = c.in_ok-roots.ensures.below n (subst (λ (xs : List ℕ). Has xs n) c.deref-3.ensures.value h) in
    let s = c.in_ok-inner.ensures.size in
    let v = ap length c.deref-2.ensures.value in
    omega (arith, b, s, v))

pub returns : goal.returns
returns c e =
    let inner = c.in_ok-inner.inner.items in
    let roots = c.in_ok-roots.roots.items in
    record {
      never_rises = c.never_rises.ensures c.if-not-never_rises.false;
      leads_within = leads_within c.args.rows.now c.args.levels.now inner c.in_ok-inner.ensures c.deref.result.now roots c.in_ok-roots.ensures
          (subst (λ (xs : List (List ℕ)). (n : ℕ) → n < length xs → LeadsInto xs roots n × IsLedTo xs roots n) c.deref-2.ensures.value
          (subst (λ (rs : List ℕ). (n : ℕ) → n < length c.deref-2.result.now → LeadsInto c.deref-2.result.now rs n × IsLedTo c.deref-2.result.now rs n) c.deref-3.ensures.value (c.in_ok-within.ensures e)));
    }
