use Rattle.std.proofs.Common.{◌≡◌, ℕ, List, [], ◌∷◌, ap, ◌∙◌, subst, sym, arith, length, length-append}
use Rattle.go_base.specs.Lists.{Has}
use Rattle.go_graphs.specs.Walks.{row_of}
use Rattle.go_graphs.specs.inner.Components.{level_of}
use Rattle.go_graphs.proofs.Pushed.{step_next}
use Rattle.go_graphs.proofs.levels.within_levels.Goals as goal

pub loop-number-preserved : goal.loop-number-preserved
loop-number-preserved c =
    let rows = c.args.rows.now in
    let levels = c.args.levels.now in
    let Q : ℕ → ℕ → Type 0 = λ n m. Has (row_of rows n) m × (level_of levels m ≡ level_of levels n) in
    let z = c.loop-number.invariant.size in
    let a = ap length c.in_ok-push.ensures.items in
    let b = length-append c.loop-number.inner.items (c.in_ok-kept.kept ∷ []) in
    record {
      size = omega (arith, a, b, z);
      step = subst (λ (xs : List (List ℕ)). (n m : ℕ) → Has (row_of xs n) m → Q n m) (sym c.in_ok-push.ensures.items)
          (step_next Q c.loop-number.inner.items c.in_ok-kept.kept c.loop-number.number z c.loop-number.invariant.step
          (λ m h. let p = c.in_ok-kept.ensures m h in (subst (λ (r : List ℕ). Has r m) c.row.ensures p.0, p.1 ∙ c.level.ensures)));
    }
