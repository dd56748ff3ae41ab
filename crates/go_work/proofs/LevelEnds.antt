-- Packages before the first level and after the last one.
use Rattle.std.proofs.Common.{◌≡◌, ◌<◌, ◌≤◌, ℕ, suc, List, [], ◌∷◌, Some, None, length, map, slice_get, refl, sym, ap, ◌∙◌, subst, inl, inr, arith}
use Rattle.std.proofs.lemmas.Option.{slice_get_within}
use Rattle.go_check.specs.Answers.{refusal_of}
use Rattle.go_check.specs.declared.error.CheckError.{CheckError}
use Rattle.go_exposed.specs.OfferedWorlds.{IsWorldOf}
use Rattle.go_model.specs.declared.types.package.Package.{Package}
use Rattle.go_typings.proofs.Cells.{none_some, some_once}
use Rattle.go_typings.specs.PackageWorlds.{Outcome, no_packages, refused, typed}
use Rattle.go_typings.specs.Refusals.{Refusal}
use Rattle.go_typings.specs.Sources.{PackageSource}
use Rattle.go_units.specs.declared.unit.«Unit».{«Unit» as PackageUnit}
use Rattle.go_levels.specs.go_level_laws.ByLevels.{Outcomes, world_of}
use Rattle.go_levels.proofs.go_level_laws_proofs.NextOutcomes.{all_below, none_become}
use Rattle.go_levels.proofs.go_level_laws_proofs.Orders.{refused_by_levels, skips_of_levels, world_of_levels}
use Rattle.go_levels.proofs.go_level_laws_proofs.UnitLevels.{unit_at}
use Rattle.go_work.specs.Answers.{IsRefusedFirst, sources}
use Rattle.go_work.specs.KeptUnits.{AreKept}
use Rattle.go_work.specs.declared.checked.SkippedUnit.{SkippedUnit}
use Rattle.go_work.specs.declared.plan.Plan.{Plan}
use Rattle.go_work.specs.declared.progress.Progress.{Progress}
use Rattle.go_work.specs.inner.Progresses.{AreReached, IsFirst, IsPlan, IsReached, level_in, sources_in, units_of}
use Rattle.go_work.specs.inner.Rows.{all_skipped_in, kept_in, row_skipped, row_unit, skipped_in, waiting_row}
use Rattle.go_work.proofs.RowLists.{all_length, rows_kept, waiting_blank, waiting_length, waiting_unit}

none_world : (us : List PackageSource) → no_packages ≡ world_of us (λ n. None)
none_world [] = refl
none_world (u ∷ us) = none_world us

pub begun : (p : Plan) → IsPlan p → (r : Progress) → r.world ≡ no_packages → r.rows.items ≡ map waiting_row (units_of p) → r.end ≡ length (units_of p) → r.refused ≡ None → IsReached p 0 r
begun p plan r world rows end none_refused =
    let a : Outcomes = λ (n : ℕ). None in
    record {
      outcomes = a;
      by = none_become (sources_in p) (level_in p) p.bits;
      skipped = λ n x xs e f. none_some (a n) x refl e;
      world = world ∙ none_world (sources_in p);
      below = all_below (sources_in p) (level_in p) a 0 (λ m y e. none_some (a m) y refl e) ∙ sym (none_world (sources_in p)) ∙ sym world;
      on = λ m d. absurd d;
      known = λ m y e. none_some (a m) y refl e;
      past = λ m l low. absurd (omega (arith, low));
      passed = λ m l d. absurd d;
      within = omega arith;
      first = subst (IsFirst p a r.end) (sym none_refused) end;
      rows = λ m u e. inl (ap (λ rs. row_unit rs m) rows ∙ waiting_unit (units_of p) m u e);
      blank = λ m e. ap (λ rs. row_skipped rs m) rows ∙ waiting_blank (units_of p) m;
      many = ap length rows ∙ waiting_length (units_of p);
    }

-- of a number that is known its unit is there
module _ (p : Plan) (plan : IsPlan p) (r : Progress) (all : AreReached p r) where
  abbrev level : ℕ
  level = all.0

  abbrev h : IsReached p level r
  h = all.1

  as_many : (us : List PackageUnit) → length (sources us) ≡ length us
  as_many [] = refl
  as_many (u ∷ us) = ap suc (as_many us)

  unit_known : (n : ℕ) (x : Outcome) → h.outcomes n ≡ Some x → (u : PackageUnit) × (slice_get (units_of p) n ≡ Some u)
  unit_known n x e = let s = h.by.become n x e in let u = unit_at (units_of p) n s.0 s.1 in (u.0, u.1)

  typed_before : r.end ≤ length (units_of p) → (m : ℕ) → m < r.end → (q : Package) × (h.outcomes m ≡ Some (typed q))
  typed_before l m b = h.past m b (all.2 m (omega (arith, l, b)))

  module _ (none_refused : r.refused ≡ None) where
    whole : r.end ≡ length (units_of p)
    whole = subst (IsFirst p h.outcomes r.end) none_refused h.first

    all_typed : (n : ℕ) → n < length (sources_in p) → (q : Package) × (h.outcomes n ≡ Some (typed q))
    all_typed n l = typed_before (let w = whole in omega (arith, w)) n (let w = whole in let m = as_many (units_of p) in omega (arith, w, m, l))

    pub reached_world : IsWorldOf p.bits (sources_in p) r.world
    reached_world =
        subst (IsWorldOf p.bits (sources_in p)) (sym h.world)
        (world_of_levels p.bits (sources_in p) plan.order.own_paths plan.order.paths plan.order.rises (level_in p) plan.rises h.outcomes h.by all_typed)

    pub reached_kept : (kept : List SkippedUnit) → kept ≡ kept_in r.rows.items → AreKept p.bits (units_of p) kept
    reached_kept kept is = record {
      skipped = skipped_in r.rows.items;
      skips =
          skips_of_levels p.bits (sources_in p) plan.order.own_paths plan.order.paths plan.order.rises (level_in p) plan.rises h.outcomes h.by (λ n l. let t = all_typed n l in (typed t.0, t.1))
          (all_skipped_in r.rows.items) (all_length r.rows.items ∙ h.many ∙ sym (as_many (units_of p))) h.skipped;
      «is» = is ∙ rows_kept (units_of p) r.rows.items h.many (λ m u e. elim (h.rows m u e) [ inl f ↦ inl f | inr t ↦ inr (t.1, t.2) ]);
    }

  module _ (e : CheckError) (some_refused : r.refused ≡ Some e) where
    first : (x : Refusal) × (refusal_of e ≡ Some x) × (h.outcomes r.end ≡ Some (refused x))
    first = subst (IsFirst p h.outcomes r.end) some_refused h.first

    pub end_unit : (u : PackageUnit) × (slice_get (units_of p) r.end ≡ Some u)
    end_unit = unit_known r.end (refused first.0) first.2

    pub reached_within : r.end < length (units_of p)
    reached_within = slice_get_within (units_of p) r.end end_unit.0 end_unit.1

    pub reached_refused : IsRefusedFirst p.bits (sources_in p) r.end e
    reached_refused = (
      first.0,
      first.1,
      refused_by_levels p.bits (sources_in p) plan.order.own_paths plan.order.paths plan.order.rises (level_in p) plan.rises h.outcomes h.by r.end first.0 first.2
          (λ m l. let t = typed_before (let w = reached_within in omega (arith, w)) m l in (typed t.0, t.1, refl)),
    )

    not_typed : (x : Refusal) (q : Package) → ◌≡◌ {A = Outcome} (typed q) (refused x) → ⊥
    not_typed x q f = cc

    pub reached_row : row_unit r.rows.items r.end ≡ Some end_unit.0
    reached_row = elim (h.rows r.end end_unit.0 end_unit.1) [ inl f ↦ f | inr t ↦ absurd (not_typed first.0 t.0.0 (some_once (typed t.0.0) (refused first.0) (sym t.0.1 ∙ first.2))) ]

    pub reached_unit : (u : PackageUnit) → row_unit r.rows.items r.end ≡ Some u → slice_get (units_of p) r.end ≡ Some u
    reached_unit u f = end_unit.1 ∙ sym reached_row ∙ f
