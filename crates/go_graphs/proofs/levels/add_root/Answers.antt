use Rattle.std.proofs.Common.{◌≡◌, ℕ, get_or, subst, sym, inl, inr}
use Rattle.go_graphs.specs.inner.Components.{level_of}
use Rattle.go_graphs.proofs.Pushed.{has_pushed}
use Rattle.go_graphs.proofs.levels.add_root.Goals as goal

pub returns : goal.returns
returns c n h =
    let q = c.is_root.ensures c.if-not-is_root.false in
    elim (has_pushed c.args.roots.now.items c.push.new.self.items c.args.number c.in_ok-push.ensures.items n h) [
      | inl k ↦ inl k
      | inr e ↦ inr (e, subst (λ (z : ℕ). get_or c.args.by_level.now (level_of c.args.levels.now z) 0 ≡ z) (sym e) q)
    ]
