-- What the outcome of one more package of a level makes of those so far.
use Rattle.std.proofs.Common.{◌≡◌, ◌<◌, ◌≤◌, ◌+◌, ◌⊎◌, ℕ, false, List, [], ◌∷◌, ◌++◌, Option, Some, None, Result, Ok, Err, length, slice_get, refl, sym, ap, ◌∙◌, subst, inl, inr, arith}
use Rattle.std.specs.Prelude.{nat_eq, slice_set}
use Rattle.std.proofs.lemmas.Option.{slice_get_within}
use Rattle.go_base.specs.Lists.{Has}
use Rattle.go_check.specs.Answers.{refusal_of}
use Rattle.go_check.specs.declared.checked.CheckedPackage.{CheckedPackage}
use Rattle.go_check.specs.declared.error.CheckError.{CheckError}
use Rattle.go_exposed.specs.OfferedPackages.{IsOfferedAs}
use Rattle.go_exposed.specs.OfferedWorlds.{Becomes}
use Rattle.go_exposed.specs.Refusals.{IsRefused}
use Rattle.go_exposed.specs.SkippedDeclarations as spec
use Rattle.go_exposed.specs.SkippedValues.{all_skipped}
use Rattle.go_exposed.specs.SkippedWorlds.{IsSkipped, IsSkippedAs}
use Rattle.go_exposed.specs.declared.skipped.Skipped.{Skipped}
use Rattle.go_imports.proofs.Members.{below_or}
use Rattle.go_levels.proofs.LevelLists.{has_front, has_last, last_has}
use Rattle.go_levels.specs.LevelNumbers.{AreOnLevel}
use Rattle.go_model.specs.declared.types.package.Package.{Package}
use Rattle.go_model.specs.worlds.Worlds.{Packages}
use Rattle.go_rules.proofs.OneKind.{no_truth}
use Rattle.go_sources.specs.UnitSources.{source_of}
use Rattle.go_typings.proofs.Cells.{either, none_some, some_once}
use Rattle.go_typings.specs.PackageWorlds.{AreTyped, Outcome, no_packages, over, refused, typed, with_outcome}
use Rattle.go_typings.specs.Refusals.{Refusal}
use Rattle.go_units.specs.declared.unit.«Unit».{«Unit» as PackageUnit}
use Rattle.go_levels.specs.go_level_laws.ByLevels.{AreSkippedByLevels, BecomeByLevels, Outcomes, with_one, world_below, world_of}
use Rattle.go_levels.proofs.go_level_laws_proofs.AddedOrders.{paths_known}
use Rattle.go_levels.proofs.go_level_laws_proofs.KnownWorlds.{added}
use Rattle.go_levels.proofs.go_level_laws_proofs.LowerWorlds.{outcome_path}
use Rattle.go_levels.proofs.go_level_laws_proofs.NextOutcomes.{all_below, below_kept, is_same, next_become, next_skipped, one_at, one_else, one_or_before, same_is}
use Rattle.go_levels.proofs.go_level_laws_proofs.UnitLevels.{written_at}
use Rattle.go_work.specs.declared.plan.Plan.{Plan}
use Rattle.go_work.specs.declared.progress.Progress.{Progress}
use Rattle.go_work.specs.declared.rows.Row.{Row}
use Rattle.go_work.specs.inner.Checks.{Checks}
use Rattle.go_work.specs.inner.Progresses.{IsAdded, IsFirst, IsNoted, IsPlan, IsReached, IsSettled, IsWithin, level_in, sources_in, units_of}
use Rattle.go_work.specs.inner.Rows.{all_skipped_in, no_row, offered_row, row_skipped, row_unit}
use Rattle.go_work.proofs.LevelWorlds.{fresh, high, lower_world, needs_known, row_held, still}
use Rattle.go_work.proofs.RowLists.{all_set, offered_left, set_blank, set_length, set_twice, skipped_else, skipped_here, unit_else, unit_here}

apart : (m n : ℕ) → nat_eq m n ≡ false → m ≡ n → ⊥
apart m n e is = no_truth (sym (same_is n) ∙ ap (λ (j : ℕ). nat_eq j n) (sym is) ∙ e)

module _ (p : Plan) (plan : IsPlan p) (k e0 : ℕ) (w0 : Packages) (done : List ℕ) (r : Progress) (h : IsWithin p k w0 e0 done r) (n : ℕ) (u : PackageUnit) (at : slice_get (units_of p) n ≡ Some u) (here : level_in p n ≡ k) (new : Has done n → ⊥)
    (before : n < e0) where
  written : slice_get (sources_in p) n ≡ Some (source_of u)
  written = written_at (units_of p) n u at

  unknown : h.outcomes n ≡ None
  unknown = fresh p plan k e0 w0 done r h n u at here new

  module _ (x : Outcome) (b : Becomes (over p.bits w0) (source_of u) x) where
    abbrev after : Outcomes
    after = with_one n x h.outcomes

    remains : (m : ℕ) (y : Outcome) → h.outcomes m ≡ Some y → after m ≡ Some y
    remains m y e = still p plan k e0 w0 done r h n u at here new x m y e

    all_high : (m : ℕ) (y : Outcome) → h.outcomes m ≡ Some y → level_in p m ≤ level_in p n
    all_high m y e = high p plan k e0 w0 done r h n u at here new m y e

    lower : world_below (sources_in p) (level_in p) (level_in p n) h.outcomes ≡ w0
    lower = lower_world p plan k e0 w0 done r h n u at here new

    become : BecomeByLevels p.bits (sources_in p) (level_in p) after
    become =
        next_become (sources_in p) (level_in p) p.bits h.outcomes n (source_of u) x h.by all_high written (needs_known p plan k e0 w0 done r h n u at here new before)
        (subst (λ (w : Packages). Becomes (over p.bits w) (source_of u) x) (sym lower) b)

    left_out : (xs : List spec.Skipped) → IsSkippedAs (over p.bits w0) (source_of u) x xs → AreSkippedByLevels p.bits (sources_in p) (level_in p) after (slice_set (all_skipped_in r.rows.items) n xs)
    left_out xs s =
        next_skipped (sources_in p) (level_in p) p.bits h.outcomes n (source_of u) x (all_skipped_in r.rows.items) xs all_high written h.skipped
        (subst (λ (w : Packages). IsSkippedAs (over p.bits w) (source_of u) x xs) (sym lower) s)

    world_after : with_outcome r.world (source_of u) x ≡ world_of (sources_in p) after
    world_after =
        ap (λ (w : Packages). with_outcome w (source_of u) x) h.world
        ∙ sym (added no_packages (sources_in p) h.outcomes n (source_of u) x plan.order.own_paths (paths_known p.bits (sources_in p) (level_in p) h.outcomes h.by) written unknown (outcome_path p.bits w0 (source_of u) x b))

    below_after : world_below (sources_in p) (level_in p) k after ≡ w0
    below_after = below_kept (sources_in p) (level_in p) h.outcomes n x k (omega (arith, here)) ∙ h.below

    on_after : (m : ℕ) → Has (done ++ n ∷ []) m → level_in p m ≡ k
    on_after m d = elim (has_last done n m d) [ inl i ↦ h.on m i | inr e ↦ ap (level_in p) (sym e) ∙ here ]

    known_after : (m : ℕ) (y : Outcome) → after m ≡ Some y → (level_in p m < k) ⊎ Has (done ++ n ∷ []) m
    known_after m y e = elim (one_or_before n x h.outcomes m y e) [
      | inl q ↦ inr (subst (Has (done ++ n ∷ [])) (sym q.0) (last_has done n))
      | inr f ↦ elim (h.known m y f) [ inl l ↦ inl l | inr d ↦ inr (has_front done n m d) ]
    ]

    past_after : (m : ℕ) → m < e0 → level_in p m < k → (q : Package) × (after m ≡ Some (typed q))
    past_after m l low = let t = h.past m l low in (t.0, remains m (typed t.0) t.1)

    first_after : (end : ℕ) (o : Option CheckError) → IsFirst p h.outcomes end o → IsFirst p after end o
    first_after end None f = f
    first_after end (Some e) f = (f.0, f.1, remains end (refused f.0) f.2)

    before_after : (m : ℕ) → after m ≡ None → h.outcomes m ≡ None
    before_after m e = elim (either (nat_eq m n)) [ inl i ↦ none_some (after m) x e (ap after (is_same m n i) ∙ one_at n x h.outcomes) | inr i ↦ sym (one_else n x h.outcomes m i) ∙ e ]

    not_none : after n ≡ None → ⊥
    not_none e = none_some (after n) x e (one_at n x h.outcomes)

  -- ---- it is offered

  module _ (c : CheckedPackage) (s : Progress) (put : IsAdded u c n r s) (imports : AreTyped w0 (source_of u)) (o : IsOfferedAs (over p.bits w0) (source_of u) c.«package») (skips : IsSkipped (over p.bits w0) (source_of u) (all_skipped c.skipped)) where
    abbrev x : Outcome
    x = typed c.«package»

    abbrev b : Becomes (over p.bits w0) (source_of u) x
    b = (imports, o)

    abbrev rows : List Row
    rows = slice_set r.rows.items n (offered_row u c.skipped)

    rows_are : s.rows.items ≡ rows
    rows_are = put.rows ∙ set_twice r.rows.items n no_row (offered_row u c.skipped)

    there : n < length r.rows.items
    there = let l = slice_get_within (units_of p) n u at in let m = h.many in omega (arith, l, m)

    abbrev AtRow : List Row → ℕ → PackageUnit → Type 0
    AtRow rs m v = (row_unit rs m ≡ Some v) ⊎ (((q : Package) × (after x b m ≡ Some (typed q))) × (row_unit rs m ≡ None) × (row_skipped rs m ≡ []))

    own_row : (xs : List Skipped) → (row_unit (slice_set r.rows.items n (offered_row u xs)) n ≡ Some u) ⊎ ((row_unit (slice_set r.rows.items n (offered_row u xs)) n ≡ None) × (row_skipped (slice_set r.rows.items n (offered_row u xs)) n ≡ []))
    own_row [] = inr (unit_here r.rows.items n no_row there, skipped_here r.rows.items n no_row there)
    own_row (y ∷ ys) = inl (unit_here r.rows.items n (offered_row u (y ∷ ys)) there)

    rows_hold : (m : ℕ) (v : PackageUnit) → slice_get (units_of p) m ≡ Some v → AtRow rows m v
    rows_hold m v e = elim (either (nat_eq m n)) [
      | inl i ↦ (
          let is = is_same m n i in
          let same : u ≡ v = some_once u v (sym at ∙ ap (slice_get (units_of p)) (sym is) ∙ e) in
          elim (own_row c.skipped) [
            | inl f ↦ inl (ap (row_unit rows) is ∙ f ∙ ap (λ (w : PackageUnit). Some w) same)
            | inr f ↦ inr ((c.«package», ap (after x b) is ∙ one_at n x h.outcomes), ap (row_unit rows) is ∙ f.0, ap (row_skipped rows) is ∙ f.1)
          ]
          )
      | inr i ↦ (
          let d = apart m n i in
          elim (h.rows m v e) [
            | inl f ↦ inl (unit_else r.rows.items n m (offered_row u c.skipped) d ∙ f)
            | inr t ↦ inr ((t.0.0, remains x b m (typed t.0.0) t.0.1), unit_else r.rows.items n m (offered_row u c.skipped) d ∙ t.1, skipped_else r.rows.items n m (offered_row u c.skipped) d ∙ t.2)
          ]
          )
    ]

    rows_blank : (m : ℕ) → after x b m ≡ None → row_skipped rows m ≡ []
    rows_blank m e = elim (either (nat_eq m n)) [
      | inl i ↦ absurd (not_none x b (ap (after x b) (sym (is_same m n i)) ∙ e))
      | inr i ↦ skipped_else r.rows.items n m (offered_row u c.skipped) (apart m n i) ∙ h.blank m (before_after x b m e)
    ]

    rows_skipped : slice_set (all_skipped_in r.rows.items) n (all_skipped c.skipped) ≡ all_skipped_in rows
    rows_skipped = ap (λ (xs : List Skipped). slice_set (all_skipped_in r.rows.items) n (all_skipped xs)) (sym (offered_left u c.skipped)) ∙ sym (all_set r.rows.items n (offered_row u c.skipped))

    pub offered_next : IsWithin p k w0 e0 (done ++ n ∷ []) s
    offered_next = record {
      outcomes = after x b;
      by = become x b;
      skipped = subst (λ (rs : List Row). AreSkippedByLevels p.bits (sources_in p) (level_in p) (after x b) (all_skipped_in rs)) (sym rows_are) (subst (AreSkippedByLevels p.bits (sources_in p) (level_in p) (after x b)) rows_skipped (left_out x b (all_skipped c.skipped) skips));
      world = put.world ∙ world_after x b;
      below = below_after x b;
      on = on_after x b;
      known = known_after x b;
      past = past_after x b;
      passed = λ m l d. elim (has_last done n m d) [
        | inl i ↦ (let t = h.passed m (subst (λ (j : ℕ). m < j) put.end l) i in (t.0, remains x b m (typed t.0) t.1))
        | inr e ↦ (c.«package», ap (after x b) (sym e) ∙ one_at n x h.outcomes)
      ];
      within = (let l = h.within in let e = put.end in omega (arith, l, e));
      first = subst (λ (q : ℕ × Option CheckError). IsFirst p (after x b) q.0 q.1) (λ i. (sym put.end i, sym put.refused i)) (first_after x b r.end r.refused h.first);
      rows = λ m v e. subst (λ (rs : List Row). AtRow rs m v) (sym rows_are) (rows_hold m v e);
      blank = λ m e. ap (λ (rs : List Row). row_skipped rs m) rows_are ∙ rows_blank m e;
      many = ap length rows_are ∙ set_length r.rows.items n (offered_row u c.skipped) ∙ h.many;
    }

  -- ---- it is refused

  module _ (e : CheckError) (x0 : Refusal) (told : refusal_of e ≡ Some x0) (s : Progress) (noted : IsNoted e n r s) (imports : AreTyped w0 (source_of u)) (o : IsRefused (over p.bits w0) (source_of u) x0) where
    abbrev y : Outcome
    y = refused x0

    abbrev by : Becomes (over p.bits w0) (source_of u) y
    by = (imports, o)

    rows_still : (m : ℕ) (v : PackageUnit) → slice_get (units_of p) m ≡ Some v → (row_unit r.rows.items m ≡ Some v) ⊎ (((q : Package) × (after y by m ≡ Some (typed q))) × (row_unit r.rows.items m ≡ None) × (row_skipped r.rows.items m ≡ []))
    rows_still m v f = elim (h.rows m v f) [ inl g ↦ inl g | inr t ↦ inr ((t.0.0, remains y by m (typed t.0.0) t.0.1), t.1, t.2) ]

    blank_row : row_skipped r.rows.items n ≡ []
    blank_row = h.blank n unknown

    noted_first : n < r.end → IsWithin p k w0 e0 (done ++ n ∷ []) s
    noted_first l = record {
      outcomes = after y by;
      by = become y by;
      skipped = subst (λ (rs : List Row). AreSkippedByLevels p.bits (sources_in p) (level_in p) (after y by) (all_skipped_in rs)) (sym noted.rows) (subst (AreSkippedByLevels p.bits (sources_in p) (level_in p) (after y by)) (set_blank r.rows.items n blank_row) (left_out y by [] refl));
      world = noted.world ∙ world_after y by;
      below = below_after y by;
      on = on_after y by;
      known = known_after y by;
      past = past_after y by;
      passed = λ m b d. elim (has_last done n m d) [
        | inl i ↦ (let q = (noted.first l).0 in let t = h.passed m (omega (arith, b, q, l)) i in (t.0, remains y by m (typed t.0) t.1))
        | inr f ↦ (let q = (noted.first l).0 in absurd (omega (arith, b, q, f)))
      ];
      within = (let q = (noted.first l).0 in omega (arith, q, before));
      first = subst (λ (q : ℕ × Option CheckError). IsFirst p (after y by) q.0 q.1) (λ i. (sym (noted.first l).0 i, sym (noted.first l).1 i)) (x0, told, one_at n y h.outcomes);
      rows = λ m v f. subst (λ (rs : List Row). (row_unit rs m ≡ Some v) ⊎ (((q : Package) × (after y by m ≡ Some (typed q))) × (row_unit rs m ≡ None) × (row_skipped rs m ≡ []))) (sym noted.rows) (rows_still m v f);
      blank = λ m f. ap (λ (rs : List Row). row_skipped rs m) noted.rows ∙ h.blank m (before_after y by m f);
      many = ap length noted.rows ∙ h.many;
    }

    noted_later : r.end ≤ n → IsWithin p k w0 e0 (done ++ n ∷ []) s
    noted_later l = record {
      outcomes = h.outcomes;
      by = h.by;
      skipped = subst (λ (rs : List Row). AreSkippedByLevels p.bits (sources_in p) (level_in p) h.outcomes (all_skipped_in rs)) (sym noted.rows) h.skipped;
      world = noted.world ∙ h.world;
      below = h.below;
      on = on_after y by;
      known = λ m z f. elim (h.known m z f) [ inl low ↦ inl low | inr d ↦ inr (has_front done n m d) ];
      past = h.past;
      passed = λ m b d. elim (has_last done n m d) [
        | inl i ↦ h.passed m (subst (λ (j : ℕ). m < j) (noted.later l).0 b) i
        | inr f ↦ (let q = (noted.later l).0 in absurd (omega (arith, b, q, f, l)))
      ];
      within = (let q = (noted.later l).0 in let w = h.within in omega (arith, q, w));
      first = subst (λ (q : ℕ × Option CheckError). IsFirst p h.outcomes q.0 q.1) (λ i. (sym (noted.later l).0 i, sym (noted.later l).1 i)) h.first;
      rows = λ m v f. subst (λ (rs : List Row). (row_unit rs m ≡ Some v) ⊎ (((q : Package) × (h.outcomes m ≡ Some (typed q))) × (row_unit rs m ≡ None) × (row_skipped rs m ≡ []))) (sym noted.rows) (h.rows m v f);
      blank = λ m f. ap (λ (rs : List Row). row_skipped rs m) noted.rows ∙ h.blank m f;
      many = ap length noted.rows ∙ h.many;
    }

    pub refused_next : IsWithin p k w0 e0 (done ++ n ∷ []) s
    refused_next = elim (below_or n r.end) [ inl l ↦ noted_first l | inr l ↦ noted_later l ]

  -- ---- either

  pub settled_next : (x : Result CheckedPackage CheckError) (s : Progress) → AreTyped w0 (source_of u) → Checks (over p.bits w0) (source_of u) x → IsSettled x n r s → IsWithin p k w0 e0 (done ++ n ∷ []) s
  settled_next (Ok c) s imports checks put =
      let same : put.0 ≡ u = some_once put.0 u (sym put.1 ∙ row_held p plan k e0 w0 done r h n u at here new) in
      offered_next c s (subst (λ (v : PackageUnit). IsAdded v c n r s) same put.2) imports checks.0 checks.1
  settled_next (Err e) s imports checks noted = refused_next e checks.0 checks.1 s noted imports checks.2

-- ---- a level is gone through

pub level_done : (p : Plan) (k e0 : ℕ) (w0 : Packages) (ns : List ℕ) (r : Progress) → IsWithin p k w0 e0 ns r → AreOnLevel p.levels k e0 ns → IsReached p (k + 1) r
level_done p k e0 w0 ns r h numbers = record {
  outcomes = h.outcomes;
  by = h.by;
  skipped = h.skipped;
  world = h.world;
  below = all_below (sources_in p) (level_in p) h.outcomes (k + 1) up ∙ sym h.world;
  on = λ m d. absurd d;
  known = λ m y e. inl (up m y e);
  past = λ m b l. elim (below_or (level_in p m) k) [
    | inl low ↦ h.past m (let w = h.within in omega (arith, b, w)) low
    | inr top ↦ h.passed m b (numbers.all m (let w = h.within in omega (arith, b, w)) (omega (arith, l, top)))
  ];
  passed = λ m b d. absurd d;
  within = omega arith;
  first = h.first;
  rows = h.rows;
  blank = h.blank;
  many = h.many;
}
  where
    up : (m : ℕ) (y : Outcome) → h.outcomes m ≡ Some y → level_in p m < k + 1
    up m y e = elim (h.known m y e) [ inl l ↦ omega (arith, l) | inr d ↦ (let o = numbers.on m d in omega (arith, o)) ]
