-- The packages of a level, one after another.
use Rattle.std.proofs.Common.{◌≡◌, ◌≢◌, ◌<◌, ◌≤◌, ◌+◌, ℕ, zero, suc, Bool, true, false, not, ◌&&◌, List, [], ◌∷◌, ◌++◌, Option, Some, None, Result, Ok, Err, length, slice_get, take, length-append, refl, sym, ap, ◌∙◌, subst, inl, inr, arith}
use Rattle.std.specs.Prelude.{IfOk, IsSome, is_none, slice_index}
use Rattle.std.specs.Str.{bytes_eq}
use Rattle.std.proofs.lemmas.Option.{slice_get_within}
use Rattle.std.proofs.lemmas.Slice.Eq.{bytes_eq-Decides}
use Rattle.go_base.specs.Keys.{first_with}
use Rattle.go_base.proofs.Lists.{take_past}
use Rattle.go_base.specs.Lists.{Has}
use Rattle.go_check.specs.declared.checked.CheckedPackage.{CheckedPackage}
use Rattle.go_check.specs.declared.error.CheckError.{CheckError}
use Rattle.go_levels.proofs.LevelLists.{has_at, next_fresh, take_next}
use Rattle.go_levels.specs.LevelNumbers.{AreOnLevel}
use Rattle.go_model.specs.worlds.Worlds.{IsWorld, Packages, path_of, with_package}
use Rattle.go_sources.specs.UnitSources.{source_of}
use Rattle.go_typings.proofs.Cells.{either, none_some, some_once}
use Rattle.go_typings.specs.PackageWorlds.{AreTyped, is_public, over, refused}
use Rattle.go_units.specs.declared.unit.«Unit».{«Unit» as PackageUnit}
use Rattle.go_work.specs.Answers.{sources}
use Rattle.go_work.specs.declared.plan.Plan.{Plan}
use Rattle.go_work.specs.declared.progress.Progress.{Progress}
use Rattle.go_work.specs.inner.Checks.{Checks, ChecksAt}
use Rattle.go_work.specs.inner.Progresses.{AreFound, IsFirst, IsPlan, IsReached, IsSettled, IsWithin, level_in, sources_in, units_of}
use Rattle.go_work.specs.inner.Rows.{is_new, is_ready, row_unit}
use Rattle.go_work.proofs.LevelSteps.{level_done, settled_next}
use Rattle.go_work.proofs.LevelWorlds as worlds
use Rattle.go_work.proofs.PlannedUnits.{unit_there}

as_many : (us : List PackageUnit) → length (sources us) ≡ length us
as_many [] = refl
as_many (u ∷ us) = ap suc (as_many us)

has_got : (us : List PackageUnit) (n : ℕ) (u : PackageUnit) → slice_get us n ≡ Some u → Has us u
has_got [] n u e = none_some (slice_get [] n) u refl e
has_got (v ∷ us) zero u e = inl (some_once v u e)
has_got (v ∷ us) (suc n) u e = inr (has_got us n u e)

got : {A : Type 0} (front rest : List A) (x : A) (j : ℕ) → j ≡ length front → slice_get (front ++ x ∷ rest) j ≡ Some x
got [] rest x zero e = refl
got [] rest x (suc j) e = absurd (omega (arith, e))
got (y ∷ front) rest x zero e = absurd (omega (arith, e))
got (y ∷ front) rest x (suc j) e = got front rest x j (omega (arith, e))

module _ (p : Plan) (plan : IsPlan p) (k : ℕ) (r : Progress) (h : IsReached p k r) where
  first_few : (end : ℕ) (o : Option CheckError) → IsFirst p h.outcomes end o → end ≤ length (units_of p)
  first_few end None f = omega (arith, f)
  first_few end (Some e) f =
      let s = h.by.become end (refused f.0) f.2 in
      let l = slice_get_within (sources_in p) end s.0 s.1 in
      let m = as_many (units_of p) in
      omega (arith, l, m)

  pub end_few : r.end ≤ length (units_of p)
  end_few = first_few r.end r.refused h.first

  module _ (ns : List ℕ) (on : AreOnLevel p.levels k r.end ns) (j : ℕ) (long : j < length ns) where
    abbrev n : ℕ
    n = slice_index ns j

    before : n < r.end
    before = on.within n (has_at ns j long)

    here : level_in p n ≡ k
    here = on.on n (has_at ns j long)

    there : (u : PackageUnit) × (slice_get (units_of p) n ≡ Some u)
    there = unit_there (units_of p) n (let b = before in let e = end_few in omega (arith, b, e))

    abbrev u : PackageUnit
    u = there.0

    pathed : u.path ≢ []
    pathed = (plan.paths u (has_got (units_of p) n u there.1)).pathed

    named : bytes_eq u.path [] ≡ false
    named = elim (either (bytes_eq u.path [])) [ inl e ↦ absurd (pathed ((bytes_eq-Decides u.path []).0 e)) | inr e ↦ e ]

    nothing : Has [] n → ⊥
    nothing d = d

    row_here : row_unit r.rows.items n ≡ Some u
    row_here = worlds.row_held p plan k r.end r.world [] r h n u there.1 here nothing

    -- it may be checked
    pub ready : is_ready r.world.packages r.rows.items n ≡ true
    ready =
        ap (is_new r.world.packages) row_here
        ∙ ap (λ (b : Bool). not b && is_none (first_with path_of r.world.packages u.path)) named
        ∙ ap is_none (worlds.none_there p plan k r.end r.world [] r h n u there.1 here nothing)

    pub row_less : n < length r.rows.items
    row_less = let b = before in let e = end_few in let m = h.many in omega (arith, b, e, m)

    -- what is found of its row is found of it
    pub checked : (x : Result CheckedPackage CheckError) → ChecksAt p.bits r.world r.rows.items n x → (v : PackageUnit) → slice_get (units_of p) n ≡ Some v → Checks (over p.bits r.world) (source_of v) x
    checked x c v e = c v (row_here ∙ sym there.1 ∙ e)

  module _ (ns : List ℕ) (on : AreOnLevel p.levels k r.end ns) where
    pub are_found : (found : List (Result CheckedPackage CheckError)) → length found ≡ length ns → ((j : ℕ) (x : Result CheckedPackage CheckError) → slice_get found j ≡ Some x → ChecksAt p.bits r.world r.rows.items (slice_index ns j) x) → AreFound p r.world ns found
    are_found found many c = record {
      many = many;
      each = λ j x e v at. checked ns on j (let l = slice_get_within found j x e in omega (arith, l, many)) x (c j x e) v at;
    }

    module _ (found : List (Result CheckedPackage CheckError)) (are : AreFound p r.world ns found) (front rest : List (Result CheckedPackage CheckError)) (x : Result CheckedPackage CheckError) (parts : front ++ x ∷ rest ≡ found) (j : ℕ) (is : j ≡ length front) where
      pub turn_long : j < length ns
      turn_long = let m = are.many in let l = length-append front (x ∷ rest) in let e = ap length parts in omega (arith, m, l, e, is)

      found_here : slice_get found j ≡ Some x
      found_here = ap (λ xs. slice_get xs j) (sym parts) ∙ got front rest x j is

      module _ (s : Progress) (w : IsWithin p k r.world r.end (take j ns) s) where
        abbrev m : ℕ
        m = slice_index ns j

        abbrev v : PackageUnit
        v = (there ns on j turn_long).0

        at : slice_get (units_of p) m ≡ Some v
        at = (there ns on j turn_long).1

        level : level_in p m ≡ k
        level = here ns on j turn_long

        new : Has (take j ns) m → ⊥
        new = next_fresh ns j on.once turn_long

        imports : AreTyped r.world (source_of v)
        imports = worlds.imports_typed p plan k r h m v at (before ns on j turn_long) level

        checks : Checks (over p.bits r.world) (source_of v) x
        checks = are.each j x found_here v at

        row : row_unit s.rows.items m ≡ Some v
        row = worlds.row_held p plan k r.end r.world (take j ns) s w m v at level new

        pub turn_held : IsSome (row_unit s.rows.items m)
        turn_held = subst IsSome (sym row) refl

        joins : (y : Result CheckedPackage CheckError) → IsWorld s.world → Checks (over p.bits r.world) (source_of v) y
            → IfOk y (λ c. (z : PackageUnit) → row_unit s.rows.items m ≡ Some z → IsWorld (with_package s.world c.«package» (is_public (source_of z))))
        joins (Ok c) world d = λ z e.
            subst (λ (z : PackageUnit). IsWorld (with_package s.world c.«package» (is_public (source_of z)))) (some_once v z (sym row ∙ e))
            (worlds.joins p plan k r.end r.world (take j ns) s w m v at level new c.«package» (is_public (source_of v)) world (plan.paths v (has_got (units_of p) m v at)).pathed (plan.paths v (has_got (units_of p) m v at)).foreign imports d.0)
        joins (Err e) world d = tt

        pub turn_joins : IsWorld s.world → IfOk x (λ c. (z : PackageUnit) → row_unit s.rows.items m ≡ Some z → IsWorld (with_package s.world c.«package» (is_public (source_of z))))
        turn_joins world = joins x world checks

        pub turn_next : (t : Progress) → IsSettled x m s t → IsWithin p k r.world r.end (take (j + 1) ns) t
        turn_next t put =
            subst (λ (done : List ℕ). IsWithin p k r.world r.end done t) (sym (take_next ns j turn_long))
            (settled_next p plan k r.end r.world (take j ns) s w m v at level new (before ns on j turn_long) x t imports checks put)

-- all of the numbers
pub turns_done : (p : Plan) (k e0 : ℕ) (w0 : Packages) (ns : List ℕ) (j : ℕ) (s : Progress) → length ns ≤ j → IsWithin p k w0 e0 (take j ns) s → AreOnLevel p.levels k e0 ns → IsReached p (k + 1) s
turns_done p k e0 w0 ns j s l w on = level_done p k e0 w0 ns s (subst (λ (done : List ℕ). IsWithin p k w0 e0 done s) (take_past j ns l) w) on
