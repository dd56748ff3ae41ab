-- How far packages are checked level by level.
use Rattle.std.specs.Prelude.{◌≡◌, ◌⊎◌, ◌<◌, ◌≤◌, ℕ, true, List, [], Option, None, Some, Result, Ok, Err, length, map, slice_get, slice_index, slice_set}
use Rattle.go_base.specs.Lists.{Has}
use Rattle.go_check.specs.Answers.{refusal_of}
use Rattle.go_check.specs.declared.checked.CheckedPackage.{CheckedPackage}
use Rattle.go_check.specs.declared.error.CheckError.{CheckError}
use Rattle.go_model.specs.declared.types.package.Package.{Package}
use Rattle.go_model.specs.worlds.Worlds.{Packages, with_package}
use Rattle.go_sources.specs.UnitSources.{source_of}
use Rattle.go_levels.specs.go_std_worlds.StdSources.{source_path}
use Rattle.go_typings.specs.PackageWorlds.{Outcome, is_public, over, refused, typed}
use Rattle.go_typings.specs.Refusals.{Refusal}
use Rattle.go_typings.specs.Sources.{Import, PackageSource, imports_of}
use Rattle.go_units.specs.declared.unit.«Unit».{«Unit» as PackageUnit}
use Rattle.go_levels.specs.go_level_laws.ByLevels.{AreSkippedByLevels, BecomeByLevels, Outcomes, world_below, world_of}
use Rattle.go_levels.specs.go_level_laws.Levels.{ComeInOrder, Rises}
use Rattle.go_work.specs.Answers.{sources}
use Rattle.go_work.specs.Paths.{AreOfPackages}
use Rattle.go_work.specs.declared.plan.Plan.{Plan}
use Rattle.go_work.specs.declared.progress.Progress.{Progress}
use Rattle.go_work.specs.inner.Checks.{Checks}
use Rattle.go_work.specs.inner.Rows.{all_skipped_in, no_row, offered_row, row_skipped, row_unit}

-- ---- one package

-- the package was added, and its row is that of one that is offered
pub record IsAdded (u : PackageUnit) (c : CheckedPackage) (n : ℕ) (old new : Progress) : Type 0 where
  pub world : new.world ≡ with_package old.world c.«package» (is_public (source_of u))
  pub rows : new.rows.items ≡ slice_set (slice_set old.rows.items n no_row) n (offered_row u c.skipped)
  pub end : new.end ≡ old.end
  pub refused : new.refused ≡ old.refused

abbrev pub IsAddedAt : CheckedPackage → ℕ → Progress → Progress → Type 0
IsAddedAt c n old new = (u : PackageUnit) × (row_unit old.rows.items n ≡ Some u) × IsAdded u c n old new

-- the number is noted where it is the first that is refused
pub record IsNoted (e : CheckError) (n : ℕ) (old new : Progress) : Type 0 where
  pub world : new.world ≡ old.world
  pub rows : new.rows.items ≡ old.rows.items
  pub first : n < old.end → (new.end ≡ n) × (new.refused ≡ Some e)
  pub later : old.end ≤ n → (new.end ≡ old.end) × (new.refused ≡ old.refused)

abbrev pub IsSettled : Result CheckedPackage CheckError → ℕ → Progress → Progress → Type 0
IsSettled (Ok c) n old new = IsAddedAt c n old new
IsSettled (Err e) n old new = IsNoted e n old new

-- ---- all packages

abbrev pub units_of : Plan → List PackageUnit
units_of p = p.units.value

abbrev pub sources_in : Plan → List PackageSource
sources_in p = sources p.units.value

abbrev pub level_in : Plan → ℕ → ℕ
level_in p = slice_index p.levels

-- units in order, with levels above those that they need
pub record ArePlanned (us : List PackageUnit) (levels : List ℕ) (bits : ℕ) : Type 0 where
  pub width : (bits ≡ 32) ⊎ (bits ≡ 64)
  pub paths : AreOfPackages us
  pub order : ComeInOrder (sources us)
  pub met : (n : ℕ) (u : PackageUnit) (file : ℕ) (i : Import) → slice_get us n ≡ Some u → Has (imports_of (source_of u) file) i → i.is_found ≡ true → Has (map source_path (sources us)) i.path
  pub few : length us < 4294967296
  pub many : length levels ≡ length us
  pub rises : Rises (sources us) (slice_index levels)
  pub low : (n : ℕ) → slice_index levels n < 4294967296

abbrev pub IsPlan : Plan → Type 0
IsPlan p = ArePlanned p.units.value p.levels p.bits

-- the package of this number is the first that is refused so far, for what the error says; or none is
abbrev pub IsFirst : Plan → Outcomes → ℕ → Option CheckError → Type 0
IsFirst p a end None = end ≡ length p.units.value
IsFirst p a end (Some e) = (r : Refusal) × (refusal_of e ≡ Some r) × (a end ≡ Some (refused r))

-- what became of packages: all below a level and some on it that are before an end, each over the world of the lower levels
pub record IsWithin (p : Plan) (level : ℕ) (lower : Packages) (end : ℕ) (done : List ℕ) (r : Progress) : Type 0 where
  pub outcomes : Outcomes
  pub by : BecomeByLevels p.bits (sources_in p) (level_in p) outcomes
  pub skipped : AreSkippedByLevels p.bits (sources_in p) (level_in p) outcomes (all_skipped_in r.rows.items)
  pub world : r.world ≡ world_of (sources_in p) outcomes
  pub below : world_below (sources_in p) (level_in p) level outcomes ≡ lower
  pub on : (m : ℕ) → Has done m → level_in p m ≡ level
  pub known : (m : ℕ) (y : Outcome) → outcomes m ≡ Some y → (level_in p m < level) ⊎ Has done m
  pub past : (m : ℕ) → m < end → level_in p m < level → (q : Package) × (outcomes m ≡ Some (typed q))
  pub passed : (m : ℕ) → m < r.end → Has done m → (q : Package) × (outcomes m ≡ Some (typed q))
  pub within : r.end ≤ end
  pub first : IsFirst p outcomes r.end r.refused
  pub rows : (m : ℕ) (u : PackageUnit) → slice_get p.units.value m ≡ Some u
      → (row_unit r.rows.items m ≡ Some u) ⊎ (((q : Package) × (outcomes m ≡ Some (typed q))) × (row_unit r.rows.items m ≡ None) × (row_skipped r.rows.items m ≡ []))
  pub blank : (m : ℕ) → outcomes m ≡ None → row_skipped r.rows.items m ≡ []
  pub many : length r.rows.items ≡ length p.units.value

-- the levels below this one are gone through
abbrev pub IsReached : Plan → ℕ → Progress → Type 0
IsReached p level r = IsWithin p level r.world r.end [] r

-- all levels are
abbrev pub AreReached : Plan → Progress → Type 0
AreReached p r = (level : ℕ) × IsReached p level r × ((n : ℕ) → n < length p.units.value → level_in p n < level)

-- ---- a level

-- what came of the packages of these numbers over a world
pub record AreFound (p : Plan) (w : Packages) (ns : List ℕ) (found : List (Result CheckedPackage CheckError)) : Type 0 where
  pub many : length found ≡ length ns
  pub each : (j : ℕ) (x : Result CheckedPackage CheckError) → slice_get found j ≡ Some x → (u : PackageUnit) → slice_get p.units.value (slice_index ns j) ≡ Some u → Checks (over p.bits w) (source_of u) x
