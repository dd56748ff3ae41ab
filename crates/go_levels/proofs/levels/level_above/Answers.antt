use Rattle.std.proofs.Common.{List, sym, ap, ◌∙◌, subst, inl, inr, arith, ℕ}
use Rattle.go_base.proofs.Lists.{take_past}
use Rattle.go_rules.specs.Names.{value_at}
use Rattle.go_levels.specs.UnitLevels.{IsLeastOver}
use Rattle.go_levels.proofs.LevelLists.{taken_last, taken_more, taken_next}
use Rattle.go_levels.proofs.levels.level_above.Goals as goal

pub loop-path-preserved : goal.loop-path-preserved
loop-path-preserved c =
    let after = c.level_after-level.ensures in
    let before = c.loop-path.invariant in
    let paths = c.args.paths.now in
    let i = c.loop-path.path-index in
    record {
      above = λ path level h e. elim (taken_next paths i c.path-item.result path c.loop-path-test.true c.path-item.is h) [
        | inl i ↦ (let a = before.above path level i e in let k = after.kept in omega (arith, a, k))
        | inr same ↦ after.above level (c.of.ensures ∙ ap (value_at c.args.known.now) same ∙ e)
      ];
      least = elim after.least [
        | inl e ↦ elim before.least [
          | inl z ↦ inl (e ∙ z)
          | inr p ↦ inr (p.0, p.1, taken_more paths i p.0 p.2, p.3, e ∙ p.4)
        ]
        | inr p ↦ inr (c.path-item.result, p.0, taken_last paths i c.path-item.result c.loop-path-test.true c.path-item.is, sym c.of.ensures ∙ p.1, p.2)
      ];
      within = after.within;
    }

pub returns-clause-least : goal.returns-clause-least
returns-clause-least c =
    subst (λ (ps : List (List ℕ)). IsLeastOver c.args.known.now ps c.loop-path.level) (take_past c.loop-path.path-index c.args.paths.now (let l = c.loop-path-test.false in omega (arith, l))) c.loop-path.invariant.least
