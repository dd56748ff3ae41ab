-- Units in canonical order, as a plan has them.
use Rattle.std.proofs.Common.{◌≡◌, ◌<◌, ◌⊎◌, ℕ, zero, suc, true, List, [], ◌∷◌, Some, length, map, slice_get, refl, ap, ◌∙◌, subst, inl, inr, arith}
use mathlib.Core.Logic.{∥∥₁_elim}
use Rattle.go_base.specs.Lists.{Has}
use Rattle.go_levels.specs.UnitLevels.{AreUnitLevels}
use Rattle.go_sources.specs.UnitSources.{source_of}
use Rattle.go_levels.proofs.go_std_worlds_proofs.OwnPaths.{own_paths}
use Rattle.go_levels.specs.go_std_worlds.StdSources.{HavePaths, source_path}
use Rattle.go_typings.specs.Sources.{Import, PackageSource, imports_of}
use Rattle.go_units.specs.declared.unit.«Unit».{«Unit» as PackageUnit}
use Rattle.go_units.specs.declared.unit_list.Units.{Units}
use Rattle.go_levels.proofs.go_level_laws_proofs.KnownWorlds.{at_path}
use Rattle.go_levels.proofs.go_level_laws_proofs.UnitLevels.{needed_before, needs_path, units_rise, written_at}
use Rattle.go_work.specs.Answers.{sources}
use Rattle.go_work.specs.Paths.{AreOfPackages}
use Rattle.go_work.specs.inner.Progresses.{ArePlanned}
use Rattle.go_work.proofs.UnitPrefixes.{has_or, never}

source_unit : (us : List PackageUnit) (v : PackageSource) → Has (sources us) v → (u : PackageUnit) × Has us u × (source_of u ≡ v)
source_unit [] v h = absurd h
source_unit (u ∷ us) v h = elim h [ inl e ↦ (u, inl refl, e) | inr k ↦ let r = source_unit us v k in (r.0, inr r.1, r.2) ]

have_paths : (us : List PackageUnit) → AreOfPackages us → HavePaths (sources us)
have_paths us paths v h e = let r = source_unit us v h in (paths r.0 r.1).pathed (ap source_path r.2 ∙ e)

-- what a unit needs stands among them
met : (units : Units) (n : ℕ) (u : PackageUnit) (file : ℕ) (i : Import) → slice_get units.packages n ≡ Some u → Has (imports_of (source_of u) file) i → i.is_found ≡ true → Has (map source_path (sources units.packages)) i.path
met units n u file i at has found = elim (has_or (map source_path (sources units.packages)) i.path) [
  | inl h ↦ h
  | inr other ↦ absurd (∥∥₁_elim units.ordered never (λ o. (
      let s = needed_before (λ (w : PackageUnit). Has units.packages w) o n u i.path at (needs_path u i.path (file, i, has, found, refl)) in
      other (subst (Has (map source_path (sources units.packages))) s.place (at_path (sources units.packages) s.number (source_of s.source) (written_at units.packages s.number s.source s.is)))
      )))
]

pub planned : (units : Units) (levels : List ℕ) (bits : ℕ) → (bits ≡ 32) ⊎ (bits ≡ 64) → AreOfPackages units.packages → AreUnitLevels units levels → ArePlanned units.packages levels bits
planned units levels bits width paths l = record {
  width = width;
  paths = paths;
  order = record { own_paths = own_paths units; paths = have_paths units.packages paths; rises = units_rise units };
  met = met units;
  few = units.few;
  many = l.many;
  rises = l.are.above;
  low = l.few;
}

pub unit_there : (us : List PackageUnit) (n : ℕ) → n < length us → (u : PackageUnit) × (slice_get us n ≡ Some u)
unit_there [] n l = absurd (omega (arith, l))
unit_there (u ∷ us) zero l = (u, refl)
unit_there (u ∷ us) (suc n) l = unit_there us n (omega (arith, l))
