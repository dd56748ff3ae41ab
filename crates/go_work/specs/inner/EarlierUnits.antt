-- Packages that were typed before, beside those that are typed so far.
use Rattle.std.specs.Prelude.{◌≡◌, ◌⊎◌, ℕ, List, [], ◌∷◌, ◌++◌, Option, None, Some}
use Rattle.go_check.specs.declared.checked.CheckedPackage.{CheckedPackage}
use Rattle.go_exposed.specs.OfferedPackages.{IsOfferedAs}
use Rattle.go_exposed.specs.OfferedWorlds.{IsWorldOf}
use Rattle.go_exposed.specs.SkippedValues.{all_skipped}
use Rattle.go_exposed.specs.SkippedWorlds.{IsSkipped}
use Rattle.go_model.specs.worlds.Worlds.{Packages, with_package}
use Rattle.go_sources.specs.UnitSources.{source_of}
use Rattle.go_taken_units.specs.go_taken_packages.InOrder.{HavePathsOfTheirOwn}
use Rattle.go_taken_units.specs.go_taken_packages.TakenPaths.{AreTaken}
use Rattle.go_taken_units.specs.go_taken_packages.ToldPackages.{is_among}
use Rattle.go_typings.specs.PackageWorlds.{is_public, no_packages, over}
use Rattle.go_typings.specs.Sources.{PackageSource, Setting}
use Rattle.go_units.specs.declared.unit.«Unit».{«Unit» as PackageUnit}
use Rattle.go_work.specs.Answers.{sources}
use Rattle.go_work.specs.TypedUnits.{AreTypedUnits}
use Rattle.go_work.specs.declared.earlier.EarlierWorld.{EarlierWorld}
use Rattle.go_work.specs.declared.earlier.EarlierWorlds.{EarlierWorlds}
use Rattle.go_work.specs.declared.typed.TypedUnits.{TypedUnits}
use Rattle.go_work.specs.inner.NextUnits.{Offer}

-- ---- those before

-- they were typed, and are taken over by their files
pub record IsEarlier (e : EarlierWorld) : Type 0 where
  pub typed : AreTypedUnits e.typed.now
  pub units : e.taken.earlier.now ≡ e.typed.now.units

-- they were typed for as many bits, and what was taken over from them stands among the packages so far
pub record StandsBeside (bits : ℕ) (us : List PackageSource) (e : EarlierWorld) : Type 0 where
  pub earlier : IsEarlier e
  pub width : e.typed.now.bits ≡ bits
  pub taken : AreTaken (sources e.typed.now.units) us (is_among e.taken.taken.keys)

pub record StandBeside (bits : ℕ) (us : List PackageSource) (e : EarlierWorlds) : Type 0 where
  pub first : StandsBeside bits us e.first
  pub second : StandsBeside bits us e.second

-- where something was found, the package is offered as that, with what is left out
abbrev pub IsFound : Setting → PackageSource → Option CheckedPackage → Type 0
IsFound s u None = Unit {0}
IsFound s u (Some c) = IsOfferedAs s u c.«package» × IsSkipped s u (all_skipped c.skipped)

-- so it is over whatever packages they stand beside
abbrev pub IsTakenFrom : EarlierWorld → PackageSource → Option CheckedPackage → Type 0
IsTakenFrom e u found = (bits : ℕ) (us : List PackageSource) (w : Packages) → HavePathsOfTheirOwn us → IsWorldOf bits us w → StandsBeside bits us e → IsFound (over bits w) u found

abbrev pub IsTakenFromOne : EarlierWorlds → PackageSource → Option CheckedPackage → Type 0
IsTakenFromOne e u found = (bits : ℕ) (us : List PackageSource) (w : Packages) → HavePathsOfTheirOwn us → IsWorldOf bits us w → StandBeside bits us e → IsFound (over bits w) u found

-- they go on to stand beside the packages with one more
abbrev pub GoesOn : PackageSource → EarlierWorld → EarlierWorld → Type 0
GoesOn u old new = (bits : ℕ) (us : List PackageSource) → StandsBeside bits us old → StandsBeside bits (us ++ u ∷ []) new

abbrev pub GoOn : PackageSource → EarlierWorlds → EarlierWorlds → Type 0
GoOn u old new = (bits : ℕ) (us : List PackageSource) → StandBeside bits us old → StandBeside bits (us ++ u ∷ []) new

-- ---- those so far

-- packages that were typed in turn
pub record AreTypedSoFar (t : TypedUnits) : Type 0 where
  pub width : (t.bits ≡ 32) ⊎ (t.bits ≡ 64)
  pub own : HavePathsOfTheirOwn (sources t.units)
  pub offer : Offer t.bits no_packages (sources t.units) t.skipped t.world

abbrev pub no_units : ℕ → TypedUnits
no_units bits = record { units = []; bits = bits; world = no_packages; skipped = [] }

-- with a unit that is offered so
abbrev pub with_unit : TypedUnits → PackageUnit → CheckedPackage → TypedUnits
with_unit t u c = record { units = t.units ++ u ∷ []; bits = t.bits; world = with_package t.world c.«package» (is_public (source_of u)); skipped = t.skipped ++ c.skipped ∷ [] }

-- the same with the next unit, as it is offered
pub record IsNextTyped (u : PackageUnit) (old new : TypedUnits) : Type 0 where
  pub found : CheckedPackage
  pub offered : IsOfferedAs (over old.bits old.world) (source_of u) found.«package»
  pub skipped : IsSkipped (over old.bits old.world) (source_of u) (all_skipped found.skipped)
  pub «is» : new ≡ with_unit old u found
