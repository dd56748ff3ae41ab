-- Packages have one level each, and units in canonical order come after those that they need.
use Rattle.std.proofs.Common.{◌≡◌, ◌<◌, ◌⊎◌, ℕ, zero, suc, true, false, List, [], ◌∷◌, ◌++◌, Some, length, map, slice_get, refl, sym, ap, ◌∙◌, subst, inl, inr, arith}
use Rattle.std.specs.Prelude.{nat_lt}
use Rattle.std.proofs.Math.Logic.{∥∥₁_elim}
use Rattle.std.proofs.lemmas.Option.{slice_get_within}
use Rattle.go_base.specs.Lists.{Has}
use Rattle.go_sources.specs.UnitSources.{file_of, import_of, source_of}
use Rattle.go_unit_worlds.proofs.go_std_worlds_proofs.OwnPaths.{own_paths}
use Rattle.go_unit_worlds.specs.go_std_worlds.TwoModules.{sources_of}
use Rattle.go_typings.proofs.Cells.{either, none_some, some_once}
use Rattle.go_typings.specs.Sources.{Import, PackageSource, imports_in}
use Rattle.go_units.proofs.NeededPaths.{found_needed}
use Rattle.go_units.specs.UnitOrders.{InOrder, none, next}
use Rattle.go_units.specs.declared.unit.«Unit».{«Unit» as PackageUnit}
use Rattle.go_units.specs.declared.unit.UnitFile.{UnitFile}
use Rattle.go_units.specs.declared.unit.UsedImport.{UsedImport}
use Rattle.go_units.specs.declared.unit_list.Units.{Units}
use Rattle.go_level_laws.specs.Levels.{AreLevels, Needs, NeedsOther, Rises}
use Rattle.go_level_laws.proofs.KnownWorlds.{one_number}
use Rattle.go_level_laws.proofs.LowerWorlds.{below_is, is_below}

-- ---- one level

module _ (us : List PackageSource) where
  there : (n m : ℕ) → NeedsOther us n m → m < length us
  there n m k = slice_get_within us m k.2.0 k.2.1

  same_level : (f g : ℕ → ℕ) → AreLevels us f → AreLevels us g → (k n : ℕ) → f n < k → n < length us → f n ≡ g n
  same_level f g a b zero n l i = absurd (omega (arith, l))
  same_level f g a b (suc k) n l i = elim (a.least n i) [
    | inl e ↦ elim (b.least n i) [
      | inl h ↦ e ∙ sym h
      | inr h ↦ absurd (let r = a.above n h.0 h.1 in omega (arith, r, e))
    ]
    | inr e ↦ elim (b.least n i) [
      | inl h ↦ absurd (let r = b.above n e.0 e.1 in omega (arith, r, h))
      | inr h ↦ (
          let below = a.above n h.0 h.1 in
          let beyond = b.above n e.0 e.1 in
          let p = same_level f g a b k e.0 (omega (arith, l, e.2)) (there n e.0 e.1) in
          let q = same_level f g a b k h.0 (omega (arith, l, below)) (there n h.0 h.1) in
          omega (arith, e.2, h.2, p, q, below, beyond)
          )
    ]
  ]

  pub one_level : (f g : ℕ → ℕ) (n : ℕ) → AreLevels us f → AreLevels us g → n < length us → f n ≡ g n
  one_level f g n a b i = same_level f g a b (suc (f n)) n (omega arith) i

-- ---- canonical order

number_of : (us : List PackageUnit) (u : PackageUnit) → Has us u → (n : ℕ) × (n < length us) × (slice_get us n ≡ Some u)
number_of [] u h = absurd h
number_of (v ∷ us) u (inl e) = (zero, omega arith, ap Some e)
number_of (v ∷ us) u (inr h) = let p = number_of us u h in (suc p.0, omega (arith, p.1), p.2)

-- an item of a list with one more is the last one, or was there
last_or_before : (us : List PackageUnit) (v u : PackageUnit) (n : ℕ) → slice_get (us ++ v ∷ []) n ≡ Some u → ((n ≡ length us) × (v ≡ u)) ⊎ ((n < length us) × (slice_get us n ≡ Some u))
last_or_before [] v u zero e = inl (refl, some_once v u e)
last_or_before [] v u (suc n) e = none_some (slice_get [] n) u refl e
last_or_before (w ∷ us) v u zero e = inr (omega arith, e)
last_or_before (w ∷ us) v u (suc n) e = elim (last_or_before us v u n e) [ inl p ↦ inl (ap suc p.0, p.1) | inr p ↦ inr (omega (arith, p.0), p.1) ]

still_at : (us : List PackageUnit) (v u : PackageUnit) (n : ℕ) → slice_get us n ≡ Some u → slice_get (us ++ v ∷ []) n ≡ Some u
still_at [] v u n e = none_some (slice_get [] n) u refl e
still_at (w ∷ us) v u zero e = e
still_at (w ∷ us) v u (suc n) e = still_at us v u n e

-- a unit of this path stands before the number
pub record StandsBefore (us : List PackageUnit) (n : ℕ) (path : List ℕ) : Type 0 where
  pub number : ℕ
  pub before : number < n
  pub source : PackageUnit
  pub is : slice_get us number ≡ Some source
  pub place : source.path ≡ path

pub needed_before : (among : PackageUnit → Type 0) {us : List PackageUnit} → InOrder among us → (n : ℕ) (u : PackageUnit) (path : List ℕ) → slice_get us n ≡ Some u → Has u.needs path → StandsBefore us n path
needed_before among none n u path e h = none_some (slice_get [] n) u refl e
needed_before among (next {standing = s} {u = v} o i) n u path e h = elim (last_or_before s v u n e) [
  | inl p ↦ (
      let k = i.met path (subst (λ (z : PackageUnit). Has z.needs path) (sym p.1) h) in
      let q = number_of s k.0 k.1 in
      record { number = q.0; before = omega (arith, q.1, p.0); source = k.0; is = still_at s v k.0 q.0 q.2; place = k.2 }
      )
  | inr p ↦ (
      let q = needed_before among o n u path p.1 h in
      record { number = q.number; before = q.before; source = q.source; is = still_at s v q.source q.number q.is; place = q.place }
      )
]

-- ---- as they are written

pub unit_at : (us : List PackageUnit) (n : ℕ) (s : PackageSource) → slice_get (map source_of us) n ≡ Some s → (u : PackageUnit) × (slice_get us n ≡ Some u) × (source_of u ≡ s)
unit_at [] n s e = none_some (slice_get [] n) s refl e
unit_at (u ∷ us) zero s e = (u, refl, some_once (source_of u) s e)
unit_at (u ∷ us) (suc n) s e = unit_at us n s e

pub written_at : (us : List PackageUnit) (n : ℕ) (u : PackageUnit) → slice_get us n ≡ Some u → slice_get (map source_of us) n ≡ Some (source_of u)
written_at [] n u e = none_some (slice_get [] n) u refl e
written_at (v ∷ us) zero u e = ap (λ (z : PackageUnit). Some (source_of z)) (some_once v u e)
written_at (v ∷ us) (suc n) u e = written_at us n u e

file_has : (is : List UsedImport) (i : Import) → Has (map import_of is) i → (j : UsedImport) × Has is j × (import_of j ≡ i)
file_has [] i h = absurd h
file_has (x ∷ xs) i h = elim h [ inl e ↦ (x, inl refl, e) | inr k ↦ let r = file_has xs i k in (r.0, inr r.1, r.2) ]

import_there : (fs : List UnitFile) (file : ℕ) (i : Import) → Has (imports_in (slice_get (map file_of fs) file)) i → (f : UnitFile) × Has fs f × Has (map import_of f.imports) i
import_there [] zero i h = absurd h
import_there [] (suc n) i h = absurd h
import_there (f ∷ fs) zero i h = (f, inl refl, h)
import_there (f ∷ fs) (suc n) i h = let r = import_there fs n i h in (r.0, inr r.1, r.2)

pub needs_path : (u : PackageUnit) (path : List ℕ) → Needs (source_of u) path → Has u.needs path
needs_path u path k =
    let f = import_there u.files k.0 k.1 k.2 in
    let j = file_has f.0.imports k.1 f.2 in
    subst (λ ps. Has ps path) (sym u.needed)
    (found_needed u.files path (f.0, f.1, (j.0, j.1, (ap (λ (x : Import). x.is_found) j.2 ∙ k.3, ap (λ (x : Import). x.path) j.2 ∙ k.4))))

never : IsProp ⊥
never a b = absurd a

pub units_rise : (units : Units) → Rises (sources_of units) (λ n. n)
units_rise units n m k = elim (either (nat_lt m n)) [
  | inl e ↦ is_below m n e
  | inr e ↦ absurd (∥∥₁_elim units.ordered never (λ o. not_above o e))
]
  where
    not_above : InOrder (λ u. Has units.packages u) units.packages → nat_lt m n ≡ false → ⊥
    not_above o e =
        let u = unit_at units.packages n k.0 k.1 in
        let v = k.2 in
        let h = needs_path u.0 v.0.path (subst (λ (z : PackageSource). Needs z v.0.path) (sym u.2) v.2) in
        let s = needed_before (λ x. Has units.packages x) o n u.0 v.0.path u.1 h in
        let is = one_number (sources_of units) (own_paths units) s.number m (source_of s.source) v.0 (written_at units.packages s.number s.source s.is) v.1 s.place in
        let g : true ≡ false = sym (below_is m n (subst (λ j. j < n) is s.before)) ∙ e in
        absurd (cc)
