-- A package of a level, beside the world of the lower levels and the one so far.
use Rattle.std.proofs.Common.{◌≡◌, ◌≢◌, ◌<◌, ◌≤◌, ℕ, zero, suc, Bool, true, List, [], ◌∷◌, Some, None, map, slice_get, refl, sym, ap, ◌∙◌, subst, inl, inr, arith}
use Rattle.std.specs.Prelude.{nat_eq}
use Rattle.go_base.specs.Lists.{Has}
use Rattle.go_exposed.specs.OfferedPackages.{IsOfferedAs}
use Rattle.go_exposed.specs.OfferedWorlds.{Becomes}
use Rattle.go_model.specs.declared.types.package.Package.{Package}
use Rattle.go_model.specs.types.Terms.{client_path}
use Rattle.go_model.specs.worlds.Worlds.{IsWorld, Packages, path_of, with_package}
use Rattle.go_sources.specs.UnitSources.{source_of}
use Rattle.go_levels.proofs.go_std_worlds_proofs.go_taken_packages_proofs.KeptPaths.{has_key}
use Rattle.go_levels.specs.go_std_worlds.StdSources.{source_path}
use Rattle.go_levels.proofs.go_typed_packages_proofs.JoinedWorlds.{offered_joins}
use Rattle.go_typings.proofs.Cells.{either, maybe, none_some}
use Rattle.go_typings.specs.PackageWorlds.{AreTyped, Outcome, over, typed}
use Rattle.go_typings.specs.Sources.{PackageSource}
use Rattle.go_units.specs.declared.unit.«Unit».{«Unit» as PackageUnit}
use Rattle.go_levels.specs.go_level_laws.ByLevels.{with_one, world_below, world_of}
use Rattle.go_levels.specs.go_level_laws.Levels.{NeedsOther}
use Rattle.go_levels.proofs.go_level_laws_proofs.AddedOrders.{absent, held, paths_known}
use Rattle.go_levels.proofs.go_level_laws_proofs.KnownWorlds.{found_in}
use Rattle.go_levels.proofs.go_level_laws_proofs.LowerWorlds.{becomes_there, below, below_closed, lower_needs}
use Rattle.go_levels.proofs.go_level_laws_proofs.NextOutcomes.{is_same, one_else}
use Rattle.go_levels.proofs.go_level_laws_proofs.UnitLevels.{written_at}
use Rattle.go_work.specs.declared.plan.Plan.{Plan}
use Rattle.go_work.specs.declared.progress.Progress.{Progress}
use Rattle.go_work.specs.inner.Progresses.{IsPlan, IsReached, IsWithin, level_in, sources_in, units_of}
use Rattle.go_work.specs.inner.Rows.{row_unit}

-- the number of a path
path_number : (vs : List PackageSource) (path : List ℕ) → Has (map source_path vs) path → (m : ℕ) × (v : PackageSource) × (slice_get vs m ≡ Some v) × (v.path ≡ path)
path_number [] path h = absurd h
path_number (v ∷ vs) path h = elim h [ inl e ↦ (zero, v, refl, e) | inr k ↦ let r = path_number vs path k in (suc r.0, r.1, r.2, r.3) ]

module _ (p : Plan) (plan : IsPlan p) where
  -- all that a package of the next level imports is typed
  pub imports_typed : (k : ℕ) (r : Progress) → IsReached p k r → (n : ℕ) (u : PackageUnit) → slice_get (units_of p) n ≡ Some u → n < r.end → level_in p n ≡ k → AreTyped r.world (source_of u)
  imports_typed k r h n u at before here file i has found =
      let q = path_number (sources_in p) i.path (plan.met n u file i at has found) in
      let needs : NeedsOther (sources_in p) n q.0 = (source_of u, written_at (units_of p) n u at, (q.1, q.2, (file, i, has, found, sym q.3))) in
      let earlier : q.0 < n = plan.order.rises n q.0 needs in
      let lower : level_in p q.0 < level_in p n = plan.rises n q.0 needs in
      let t = h.past q.0 (omega (arith, earlier, before)) (omega (arith, lower, here)) in
      let f = held p.bits (sources_in p) (level_in p) h.outcomes plan.order.own_paths h.by q.0 q.1 t.0 q.2 t.1 in
      has_key path_of r.world.packages i.path t.0 (ap (λ w. found_in w i.path) h.world ∙ ap (found_in (world_of (sources_in p) h.outcomes)) (sym q.3) ∙ f)

  module _ (k e0 : ℕ) (w0 : Packages) (done : List ℕ) (r : Progress) (h : IsWithin p k w0 e0 done r) (n : ℕ) (u : PackageUnit) (at : slice_get (units_of p) n ≡ Some u) (here : level_in p n ≡ k) (new : Has done n → ⊥) where
    -- nothing became of it yet
    pub fresh : h.outcomes n ≡ None
    fresh = elim (maybe (h.outcomes n)) [
      | inl q ↦ elim (h.known n q.0 q.1) [ inl l ↦ absurd (omega (arith, l, here)) | inr d ↦ absurd (new d) ]
      | inr e ↦ e
    ]

    pub row_held : row_unit r.rows.items n ≡ Some u
    row_held = elim (h.rows n u at) [ inl e ↦ e | inr t ↦ none_some (h.outcomes n) (typed t.0.0) fresh t.0.1 ]

    pub none_there : found_in r.world u.path ≡ None
    none_there = ap (λ w. found_in w u.path) h.world ∙ absent p.bits (sources_in p) (level_in p) h.outcomes plan.order.own_paths h.by n (source_of u) (written_at (units_of p) n u at) fresh

    pub high : (m : ℕ) (y : Outcome) → h.outcomes m ≡ Some y → level_in p m ≤ level_in p n
    high m y e = elim (h.known m y e) [ inl l ↦ omega (arith, l, here) | inr d ↦ (let o = h.on m d in omega (arith, o, here)) ]

    pub lower_world : world_below (sources_in p) (level_in p) (level_in p n) h.outcomes ≡ w0
    lower_world = ap (λ (j : ℕ). world_below (sources_in p) (level_in p) j h.outcomes) here ∙ h.below

    pub needs_known : n < e0 → (m : ℕ) → NeedsOther (sources_in p) n m → (y : Outcome) × (h.outcomes m ≡ Some y)
    needs_known before m needs =
        let earlier : m < n = plan.order.rises n m needs in
        let lower : level_in p m < level_in p n = plan.rises n m needs in
        let t = h.past m (omega (arith, earlier, before)) (omega (arith, lower, here)) in
        (typed t.0, t.1)

    -- with what becomes of it, the others are what they were
    pub still : (x : Outcome) (m : ℕ) (y : Outcome) → h.outcomes m ≡ Some y → with_one n x h.outcomes m ≡ Some y
    still x m y e = elim (either (nat_eq m n)) [ inl i ↦ none_some (h.outcomes m) y (ap h.outcomes (is_same m n i) ∙ fresh) e | inr i ↦ one_else n x h.outcomes m i ∙ e ]

    -- what becomes of it over the lower levels becomes of it over all packages so far
    becomes_now : (x : Outcome) → Becomes (over p.bits w0) (source_of u) x → Becomes (over p.bits r.world) (source_of u) x
    becomes_now x b =
        let us = sources_in p in
        let level = level_in p in
        let all : ℕ → Bool = λ (m : ℕ). true in
        let paths = paths_known p.bits us level h.outcomes h.by in
        let from : Becomes (over p.bits (world_below us level (level n) h.outcomes)) (source_of u) x = subst (λ (w : Packages). Becomes (over p.bits w) (source_of u) x) (sym lower_world) b in
        let to : Becomes (over p.bits (world_of us h.outcomes)) (source_of u) x =
        becomes_there p.bits us plan.order.own_paths plan.order.paths h.outcomes paths level plan.rises h.by (below level (level n)) all
        (below_closed p.bits us plan.order.own_paths plan.order.paths h.outcomes paths level plan.rises (level n)) (λ i m y e f needs. refl) (source_of u)
        (lower_needs p.bits us plan.order.own_paths plan.order.paths h.outcomes paths level plan.rises n (source_of u) (written_at (units_of p) n u at)) (λ m v e needs. refl) x from
        in subst (λ (w : Packages). Becomes (over p.bits w) (source_of u) x) (sym h.world) to

    -- so it joins them
    pub joins : (q : Package) (public : Bool) → IsWorld r.world → u.path ≢ [] → u.path ≢ client_path → AreTyped w0 (source_of u) → IsOfferedAs (over p.bits w0) (source_of u) q → IsWorld (with_package r.world q public)
    joins q public world some foreign imports o = offered_joins (over p.bits r.world) (source_of u) q world (becomes_now (typed q) (imports, o)).1 none_there some foreign public
