-- What the trees of a module and of the standard library have on a platform: a world, or the first refusal with its fault line.
-- Own: the order of refusals. All packages are taken before the first declaration is.
use Rattle.std.specs.Prelude.{◌≢◌, ◌≤◌, ◌+◌, ℕ, List, [], length, map, Result, Ok, Err}
use Rattle.api_refusals.specs.Refusals.{package_text, refusal_line, unit_text}
use Rattle.api_texts.specs.declared.lines.Side.{Side}
use Rattle.api_worlds.specs.declared.error.PlatformError.{PlatformError}
use Rattle.api_worlds.specs.declared.error.PlatformError.TheVariants as error
use Rattle.api_worlds.specs.declared.next_world.NextWorld.{NextWorld}
use Rattle.api_worlds.specs.declared.platform_world.PlatformWorld.{PlatformWorld}
use Rattle.go_model.specs.declared.files.platform.Platform.{Platform}
use Rattle.go_model.specs.declared.files.tree.Tree.{Tree}
use Rattle.go_model.specs.files.Platforms.{bits_of}
use Rattle.go_model.specs.worlds.Worlds.{Packages}
use Rattle.go_reading.specs.TreeUnits.{AreUnitsOfTrees}
use Rattle.go_sources.specs.UnitSources.{source_of}
use Rattle.go_exposed.specs.OfferedWorlds.{IsFirstRefused, IsWorldOf}
use Rattle.go_typings.specs.Refusals.{Refusal}
use Rattle.go_typings.specs.Sources.{PackageSource}
use Rattle.go_units.specs.declared.unit_error.UnitError.{UnitError}
use Rattle.go_units.specs.declared.unit_error.UnitError.TheVariants as unit
use Rattle.go_units.specs.declared.unit_list.Units.{Units}

-- the packages of units, as they are written
abbrev pub sources_of : Units → List PackageSource
sources_of units = map source_of units.packages

module _ (barred : List (List ℕ)) (tree std_tree : Tree) where
  -- the packages of the trees on a platform
  abbrev pub AreUnitsOn : Platform → Units → Type 0
  AreUnitsOn p units = AreUnitsOfTrees p barred tree std_tree (Ok units)

  -- the world of the packages on a platform
  abbrev pub IsWorldOn : Platform → Packages → Type 0
  IsWorldOn p w = (units : Units) × AreUnitsOn p units × IsWorldOf (bits_of p) (sources_of units) w

  -- the fault line of the trees of a side on a platform: of the first refusal of their packages, or else of the first package that is refused
  pub data IsRefusedOn (s : Side) (p : Platform) : List ℕ → Type 0 where
    packages_refused : (e : UnitError) → e ≢ unit.NoMemory → AreUnitsOfTrees p barred tree std_tree (Err e) → IsRefusedOn s p (refusal_line s p (unit_text tree std_tree [] e))
    package_refused : (units : Units) (n : ℕ) (r : Refusal) → AreUnitsOn p units → IsFirstRefused (bits_of p) (sources_of units) n r → IsRefusedOn s p (refusal_line s p (package_text tree std_tree [] units.packages n r))

  -- the trees of a side have no world on a platform: that fault line, or want of memory, which may come at any time
  abbrev pub IsErrorOn : Side → Platform → PlatformError → Type 0
  IsErrorOn s p (error.Refused line) = IsRefusedOn s p line
  IsErrorOn s p error.NoMemory = Unit {0}

  -- the world on a platform, or that
  abbrev pub AnswersWorld : Side → Platform → Result PlatformWorld PlatformError → Type 0
  AnswersWorld s p (Ok w) = IsWorldOn p w.world
  AnswersWorld s p (Err e) = IsErrorOn s p e

  -- the same, where the packages are kept
  abbrev pub AnswersNext : Side → Platform → Result NextWorld PlatformError → Type 0
  AnswersNext s p (Ok w) = IsWorldOn p w.typed.world
  AnswersNext s p (Err e) = IsErrorOn s p e

  -- how many packages are checked on a platform: all that the trees have there, or none
  pub data CountsOn (p : Platform) : ℕ → Type 0 where
    no_package : CountsOn p 0
    all_packages : (units : Units) → AreUnitsOn p units → CountsOn p (length units.packages)

  -- a counter rose by no more than that
  abbrev pub CountsAtMost : Platform → ℕ → ℕ → Type 0
  CountsAtMost p before now = (n : ℕ) × CountsOn p n × (now ≤ before + n)
