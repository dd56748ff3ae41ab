-- One more unit and its level.
use Rattle.std.proofs.Common.{◌≡◌, ◌<◌, ◌≤◌, ◌+◌, ◌⊎◌, ℕ, zero, suc, Bool, true, false, List, [], ◌∷◌, ◌++◌, Option, Some, cond, length, map, slice_get, length-append, refl, sym, ap, ◌∙◌, subst, inl, inr, arith}
use Rattle.std.specs.Prelude.{nat_lt, slice_index}
use Rattle.std.specs.Str.{bytes_eq}
use Rattle.std.proofs.lemmas.Bool.Decides.{nat_tests}
use Rattle.std.proofs.lemmas.Option.{slice_get_within}
use Rattle.std.proofs.lemmas.Slice.Eq.{bytes_eq-Decides}
use Rattle.go_base.specs.Lists.{Has}
use Rattle.go_rules.proofs.NamedEntries.{put_is}
use Rattle.go_rules.specs.Names.{Named, value_at, with_value}
use Rattle.go_sources.specs.UnitSources.{file_of, import_of, source_of}
use Rattle.go_level_laws.proofs.go_std_worlds_proofs.go_taken_packages_proofs.KeptPaths.{mapped}
use Rattle.go_level_laws.specs.go_std_worlds.StdSources.{HaveOwnPaths}
use Rattle.go_typings.proofs.Cells.{either, none_some, some_once}
use Rattle.go_typings.specs.Sources.{PackageSource, SourceFile, imports_in}
use Rattle.go_units.proofs.NeededPaths.{needed_found}
use Rattle.go_units.specs.declared.unit.«Unit».{«Unit» as PackageUnit}
use Rattle.go_units.specs.declared.unit.UnitFile.{UnitFile}
use Rattle.go_units.specs.declared.unit_list.Units.{Units}
use Rattle.go_level_laws.specs.Levels.{Needs}
use Rattle.go_level_laws.proofs.KnownWorlds.{one_number}
use Rattle.go_level_laws.proofs.UnitLevels.{needs_path, unit_at, units_rise, written_at}
use Rattle.go_levels.specs.UnitLevels.{AreBelow, AreUnitLevels, IsLeastOver}
use Rattle.go_levels.proofs.LevelLists.{below_next}

-- ---- a list with one more number

index_front : (xs : List ℕ) (y n : ℕ) → n < length xs → slice_index (xs ++ y ∷ []) n ≡ slice_index xs n
index_front [] y n l = absurd (omega (arith, l))
index_front (x ∷ xs) y zero l = refl
index_front (x ∷ xs) y (suc n) l = index_front xs y n (omega (arith, l))

index_last : (xs : List ℕ) (y : ℕ) → slice_index (xs ++ y ∷ []) (length xs) ≡ y
index_last [] y = refl
index_last (x ∷ xs) y = index_last xs y

index_past : (xs : List ℕ) (n : ℕ) → length xs ≤ n → slice_index xs n ≡ 0
index_past [] zero l = refl
index_past [] (suc n) l = refl
index_past (x ∷ xs) zero l = absurd (omega (arith, l))
index_past (x ∷ xs) (suc n) l = index_past xs n (omega (arith, l))

-- ---- the first units

pub record HaveLevels (us : List PackageUnit) (i : ℕ) (known : Named ℕ) (levels : List ℕ) : Type 0 where
  pub many : length levels ≡ i
  pub known_at : (n : ℕ) (u : PackageUnit) → n < i → slice_get us n ≡ Some u → value_at known u.path ≡ Some (slice_index levels n)
  pub below : AreBelow known i
  pub above : (n m : ℕ) (u v : PackageUnit) → n < i → m < n → slice_get us n ≡ Some u → slice_get us m ≡ Some v → Has u.needs v.path → slice_index levels m < slice_index levels n
  pub few : (n : ℕ) → slice_index levels n ≤ i
  pub from : (path : List ℕ) (k : ℕ) → value_at known path ≡ Some k → (m : ℕ) × (v : PackageUnit) × (m < i) × (slice_get us m ≡ Some v) × (v.path ≡ path) × (slice_index levels m ≡ k)
  pub least : (n : ℕ) (u : PackageUnit) → n < i → slice_get us n ≡ Some u → (slice_index levels n ≡ 0) ⊎ ((m : ℕ) × (v : PackageUnit) × (m < n) × (slice_get us m ≡ Some v) × Has u.needs v.path × (slice_index levels n ≡ suc (slice_index levels m)))

module _ (us : List PackageUnit) where
  pub no_level : HaveLevels us 0 [] []
  no_level = record {
    many = refl;
    known_at = λ n u l e. absurd (omega (arith, l));
    below = λ path level e. none_some (value_at {A = ℕ} [] path) level refl e;
    above = λ n m u v l k e f h. absurd (omega (arith, l));
    few = λ n. let e = index_past [] n (omega arith) in omega (arith, e);
    from = λ path k e. none_some (value_at {A = ℕ} [] path) k refl e;
    least = λ n u l e. absurd (omega (arith, l));
  }

  module _ (own : HaveOwnPaths (map source_of us)) (i : ℕ) (u : PackageUnit) (known : Named ℕ) (levels : List ℕ) (level : ℕ) (at : slice_get us i ≡ Some u) (h : HaveLevels us i known levels)
      (over : (path : List ℕ) (k : ℕ) → Has u.needs path → value_at known path ≡ Some k → k < level) (within : level ≤ i) (most : IsLeastOver known u.needs level) where
    -- another unit has another path
    other : (n : ℕ) (v : PackageUnit) → n < i → slice_get us n ≡ Some v → bytes_eq v.path u.path ≡ false
    other n v l e = elim (either (bytes_eq v.path u.path)) [
      | inl s ↦ (
          let is = one_number (map source_of us) own n i (source_of v) (source_of u) (written_at us n v e) (written_at us i u at) ((bytes_eq-Decides v.path u.path).0 s) in
          absurd (omega (arith, l, is))
          )
      | inr s ↦ s
    ]

    put : (path : List ℕ) (b : Bool) → bytes_eq path u.path ≡ b → value_at (with_value known u.path level) path ≡ cond b (Some level) (value_at known path)
    put path b e = put_is path u.path level known ∙ ap (λ c. cond c (Some level) (value_at known path)) e

    front : (n : ℕ) → n < i → slice_index (levels ++ level ∷ []) n ≡ slice_index levels n
    front n l = index_front levels level n (subst (λ (k : ℕ). n < k) (sym h.many) l)

    last : slice_index (levels ++ level ∷ []) i ≡ level
    last = ap (slice_index (levels ++ level ∷ [])) (sym h.many) ∙ index_last levels level

    level_known : (n : ℕ) (v : PackageUnit) → n < i + 1 → slice_get us n ≡ Some v → value_at (with_value known u.path level) v.path ≡ Some (slice_index (levels ++ level ∷ []) n)
    level_known n v l e = elim (below_next n i l) [
      | inl k ↦ put v.path false (other n v k e) ∙ h.known_at n v k e ∙ ap (λ (m : ℕ). Some m) (sym (front n k))
      | inr q ↦ (
          let is : v ≡ u = some_once v u (sym e ∙ ap (slice_get us) q ∙ at) in
          let same = ap (λ (w : PackageUnit). w.path) is in
          put v.path true ((bytes_eq-Decides v.path u.path).1 same) ∙ ap (λ (m : ℕ). Some m) (sym (ap (slice_index (levels ++ level ∷ [])) q ∙ last))
          )
    ]

    all_below : AreBelow (with_value known u.path level) (i + 1)
    all_below path k e = elim (either (bytes_eq path u.path)) [
      | inl s ↦ (let is = some_once level k (sym (put path true s) ∙ e) in omega (arith, is, within))
      | inr s ↦ (let l = h.below path k (sym (put path false s) ∙ e) in omega (arith, l))
    ]

    needs_below : (n m : ℕ) (v w : PackageUnit) → n < i + 1 → m < n → slice_get us n ≡ Some v → slice_get us m ≡ Some w → Has v.needs w.path → slice_index (levels ++ level ∷ []) m < slice_index (levels ++ level ∷ []) n
    needs_below n m v w l k e f needs = elim (below_next n i l) [
      | inl low ↦ (
          let r = h.above n m v w low k e f needs in
          let a = front n low in
          let b = front m (omega (arith, low, k)) in
          omega (arith, r, a, b)
          )
      | inr q ↦ (
          let low : m < i = omega (arith, k, q) in
          let is : v ≡ u = some_once v u (sym e ∙ ap (slice_get us) q ∙ at) in
          let r = over w.path (slice_index levels m) (subst (λ (z : PackageUnit). Has z.needs w.path) is needs) (h.known_at m w low f) in
          let a : slice_index (levels ++ level ∷ []) n ≡ level = ap (slice_index (levels ++ level ∷ [])) q ∙ last in
          let b = front m low in
          omega (arith, r, a, b)
          )
    ]

    all_few : (n : ℕ) → slice_index (levels ++ level ∷ []) n ≤ i + 1
    all_few n = elim (either (nat_lt n (i + 1))) [
      | inl t ↦ elim (below_next n i (is_less n (i + 1) t)) [
        | inl low ↦ (let r = h.few n in let a = front n low in omega (arith, r, a))
        | inr q ↦ (let a : slice_index (levels ++ level ∷ []) n ≡ level = ap (slice_index (levels ++ level ∷ [])) q ∙ last in omega (arith, a, within))
      ]
      | inr t ↦ (let a = index_past (levels ++ level ∷ []) n (past n t) in omega (arith, a))
    ]
      where
        is_less : (m n : ℕ) → nat_lt m n ≡ true → m < n
        is_less m n e = grind (arith, nat_tests)

        not_less : (m n : ℕ) → nat_lt m n ≡ false → n ≤ m
        not_less m n e = grind (arith, nat_tests)

        past : (n : ℕ) → nat_lt n (i + 1) ≡ false → length (levels ++ level ∷ []) ≤ n
        past n t = let a = length-append levels (level ∷ []) in let b = h.many in let l = not_less n (i + 1) t in omega (arith, a, b, l)

    all_from : (path : List ℕ) (k : ℕ) → value_at (with_value known u.path level) path ≡ Some k → (m : ℕ) × (v : PackageUnit) × (m < i + 1) × (slice_get us m ≡ Some v) × (v.path ≡ path) × (slice_index (levels ++ level ∷ []) m ≡ k)
    all_from path k e = elim (either (bytes_eq path u.path)) [
      | inl s ↦ (i, u, omega arith, at, sym ((bytes_eq-Decides path u.path).0 s), last ∙ some_once level k (sym (put path true s) ∙ e))
      | inr s ↦ (let q = h.from path k (sym (put path false s) ∙ e) in let l = q.2 in (q.0, q.1, omega (arith, l), q.3, q.4, front q.0 l ∙ q.5))
    ]

    level_least : (n : ℕ) (v : PackageUnit) → n < i + 1 → slice_get us n ≡ Some v
        → (slice_index (levels ++ level ∷ []) n ≡ 0) ⊎ ((m : ℕ) × (w : PackageUnit) × (m < n) × (slice_get us m ≡ Some w) × Has v.needs w.path × (slice_index (levels ++ level ∷ []) n ≡ suc (slice_index (levels ++ level ∷ []) m)))
    level_least n v l e = elim (below_next n i l) [
      | inl low ↦ elim (h.least n v low e) [
        | inl z ↦ inl (front n low ∙ z)
        | inr q ↦ (let k = q.2 in inr (q.0, q.1, k, q.3, q.4, front n low ∙ q.5 ∙ ap suc (sym (front q.0 (omega (arith, k, low))))))
      ]
      | inr is ↦ (
          let same : v ≡ u = some_once v u (sym e ∙ ap (slice_get us) is ∙ at) in
          let here : slice_index (levels ++ level ∷ []) n ≡ level = ap (slice_index (levels ++ level ∷ [])) is ∙ last in
          elim most [
            | inl z ↦ inl (here ∙ z)
            | inr q ↦ (
                let r = h.from q.0 q.1 q.3 in
                let k = r.2 in
                let a = front r.0 k in
                let b = r.5 in
                let d = q.4 in
                inr (r.0, r.1, omega (arith, k, is), r.3, subst (λ (z : PackageUnit). Has z.needs r.1.path) (sym same) (subst (Has u.needs) (sym r.4) q.2), omega (arith, here, a, b, d))
                )
          ]
          )
    ]

    pub next_level : HaveLevels us (i + 1) (with_value known u.path level) (levels ++ level ∷ [])
    next_level = record {
      many = (let a = length-append levels (level ∷ []) in let b = h.many in omega (arith, a, b));
      known_at = level_known;
      below = all_below;
      above = needs_below;
      few = all_few;
      from = all_from;
      least = level_least;
    }

-- ---- all units

as_many : (us : List PackageUnit) → length (map source_of us) ≡ length us
as_many [] = refl
as_many (u ∷ us) = ap suc (as_many us)

unit_there : (us : List PackageUnit) (n : ℕ) → n < length us → (u : PackageUnit) × (slice_get us n ≡ Some u)
unit_there [] n l = absurd (omega (arith, l))
unit_there (u ∷ us) zero l = (u, refl)
unit_there (u ∷ us) (suc n) l = unit_there us n (omega (arith, l))

file_number : (fs : List UnitFile) (f : UnitFile) → Has fs f → (n : ℕ) × (slice_get (map file_of fs) n ≡ Some (file_of f))
file_number [] f h = absurd h
file_number (g ∷ fs) f (inl e) = (zero, ap (λ (z : UnitFile). Some (file_of z)) e)
file_number (g ∷ fs) f (inr h) = let r = file_number fs f h in (suc r.0, r.1)

-- a path that a unit needs is that of a found import of a file of it
path_needs : (u : PackageUnit) (path : List ℕ) → Has u.needs path → Needs (source_of u) path
path_needs u path h =
    let f = needed_found u.files path (subst (λ (ps : List (List ℕ)). Has ps path) u.needed h) in
    let j = f.2 in
    let n = file_number u.files f.0 f.1 in
    (n.0, import_of j.0, subst (λ (o : Option SourceFile). Has (imports_in o) (import_of j.0)) (sym n.1) (mapped import_of f.0.imports j.0 j.1), j.2.0, j.2.1)

pub all_levels : (units : Units) (i : ℕ) (known : Named ℕ) (levels : List ℕ) → i ≡ length units.packages → HaveLevels units.packages i known levels → AreUnitLevels units levels
all_levels units i known levels is h = record {
  many = h.many ∙ is;
  are = record {
    above = λ n m k. (
        let us = units.packages in
        let u = unit_at us n k.0 k.1 in
        let s = k.2 in
        let v = unit_at us m s.0 s.1 in
        let low = units_rise units n m k in
        let there = slice_get_within us n u.0 u.1 in
        let needs = needs_path u.0 v.0.path (subst (λ (z : PackageSource). Needs (source_of u.0) z.path) (sym v.2) (subst (λ (z : PackageSource). Needs z s.0.path) (sym u.2) s.2)) in
        h.above n m u.0 v.0 (omega (arith, there, is)) low u.1 v.1 needs
        );
    least = λ n l. (
        let us = units.packages in
        let many = as_many us in
        let u = unit_there us n (omega (arith, l, many)) in
        elim (h.least n u.0 (omega (arith, l, many, is)) u.1) [
          | inl z ↦ inl z
          | inr q ↦ inr (q.0, (source_of u.0, written_at us n u.0 u.1, (source_of q.1, written_at us q.0 q.1 q.3, path_needs u.0 q.1.path q.4)), q.5)
        ]
        );
  };
  few = λ n. let l = h.few n in let f = units.few in omega (arith, l, is, f);
}
