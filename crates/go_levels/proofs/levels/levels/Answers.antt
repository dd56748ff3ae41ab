use Rattle.std.proofs.Common.{◌≡◌, ◌∷◌, [], ◌++◌, ◌+◌, ◌≤◌, ℕ, List, length, map, sym, ap, ◌∙◌, subst, arith}
use Rattle.go_base.specs.Lists.{Has}
use Rattle.go_rules.specs.Names.{Named, with_value}
use Rattle.go_sources.specs.UnitSources.{source_of}
use Rattle.go_level_laws.proofs.go_std_worlds_proofs.OwnPaths.{own_paths}
use Rattle.go_level_laws.specs.go_std_worlds.StdSources.{HaveOwnPaths}
use Rattle.go_units.specs.declared.unit.«Unit».{«Unit» as PackageUnit}
use Rattle.go_levels.specs.UnitLevels.{IsLeastOver}
use Rattle.go_levels.proofs.LevelLists.{get_at}
use Rattle.go_levels.proofs.LevelSteps.{HaveLevels, all_levels, next_level}
use Rattle.go_levels.proofs.levels.levels.Goals as goal

pub loop-unit-preserved : goal.loop-unit-preserved
loop-unit-preserved c =
    let all = c.items-all.result.now in
    let i = c.loop-unit.unit-index in
    let u = c.unit-item.result in
    let known = c.loop-unit.known in
    let levels = c.loop-unit.levels in
    let level = c.level_above-level.result in
    let own : HaveOwnPaths (map source_of all) = subst (λ (us : List PackageUnit). HaveOwnPaths (map source_of us)) (sym c.items-all.ensures) (own_paths c.args.units.now) in
    let within : level ≤ i = (let w = c.level_above-level.ensures.within in let k = c.loop-unit.invariant.count in omega (arith, w, k)) in
    let now : c.put.new.self ≡ with_value known u.path level = c.in_ok-put.ensures ∙ ap (λ (path : List ℕ). with_value known path level) c.in_ok-copy.ensures in
    let more : c.push.new.self ≡ levels ++ level ∷ [] = c.in_ok-push.ensures.ok in
    record {
      have =
          subst (λ (q : Named ℕ × List ℕ). HaveLevels all (i + 1) q.0 q.1) (λ j. (sym now j, sym more j))
          (next_level all own i u known levels level (get_at all i u c.loop-unit-test.true c.unit-item.is) c.loop-unit.invariant.have
          (λ path k h e. c.level_above-level.ensures.above path k (subst (λ (paths : List (List ℕ)). Has paths path) (sym c.items.ensures) h) e) within
          (subst (λ (paths : List (List ℕ)). IsLeastOver known paths level) c.items.ensures c.level_above-level.ensures.least));
      count = ap (λ (k : ℕ). k + 1) c.loop-unit.invariant.count;
    }

pub returns : goal.returns
returns c =
    let is = c.items-all.ensures in
    let end = c.loop-unit-test.false in
    let most = c.loop-unit.auto.unit-index-end in
    let many = ap length is in
    all_levels c.args.units.now c.loop-unit.unit-index c.loop-unit.known c.loop-unit.levels (omega (arith, end, most, many)) (subst (λ (us : List PackageUnit). HaveLevels us c.loop-unit.unit-index c.loop-unit.known c.loop-unit.levels) is c.loop-unit.invariant.have)
