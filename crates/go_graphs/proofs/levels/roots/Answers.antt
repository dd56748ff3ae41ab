use Rattle.std.proofs.Common.{◌≡◌, inl, inr, arith}
use Rattle.go_graphs.proofs.levels.roots.Goals as goal

pub loop-root-preserved : goal.loop-root-preserved
loop-root-preserved c =
    let s : c.in-Ok.number ≡ c.loop-root.root = grind arith in
    let l = c.loop-root-test.true in
    record {
      below = λ n h. elim (c.in_ok-add_root.ensures n h) [
        | inl k ↦ c.loop-root.invariant.below n k
        | inr p ↦ (let e = p.0 in omega (arith, s, e, l))
      ];
      root = λ n h. elim (c.in_ok-add_root.ensures n h) [ inl k ↦ c.loop-root.invariant.root n k | inr p ↦ p.1 ];
    }
