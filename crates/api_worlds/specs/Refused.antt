-- What becomes of what is refused on a platform, among the packages of trees and the files of a client over them: a fault line, or want of memory.
-- Own: this project's reports and exit statuses.
use Rattle.std.specs.Prelude.{◌≡◌, ◌≢◌, List, Option, Some, option_map}
use Rattle.api_refusals.specs.PackageFaults.{refusal_of}
use Rattle.api_refusals.specs.Refusals.{refusal_line, refused_text, unit_text}
use Rattle.api_refusals.specs.declared.refusals.PackageFault.{PackageFault}
use Rattle.api_texts.specs.declared.lines.Side.{Side}
use Rattle.api_worlds.specs.declared.error.PlatformError.{PlatformError}
use Rattle.api_worlds.specs.declared.error.PlatformError.TheVariants as error
use Rattle.go_work.specs.go_check.Answers.{refusal_of as told_by}
use Rattle.go_work.specs.go_check.declared.error.CheckError.{CheckError}
use Rattle.go_model.specs.declared.files.platform.Platform.{Platform}
use Rattle.go_model.specs.declared.files.tree.Tree.{Tree}
use Rattle.go_model.specs.declared.files.tree.TreeFile.{TreeFile}
use Rattle.go_typings.specs.Refusals.{Refusal}
use Rattle.go_units.specs.declared.unit.«Unit».{«Unit» as PackageUnit}
use Rattle.go_units.specs.declared.unit_error.UnitError.{UnitError}
use Rattle.go_units.specs.declared.unit_error.UnitError.TheVariants as unit

-- the refusal that a fault line tells, of an error of a check
abbrev pub TellsFault : CheckError → Option PackageFault → Type 0
TellsFault e fault = option_map refusal_of fault ≡ told_by e

module _ (tree std_tree : Tree) (client : List TreeFile) (s : Side) (p : Platform) where
  -- the packages aren't taken for this error
  abbrev pub IsUnitRefusal : UnitError → PlatformError → Type 0
  IsUnitRefusal e (error.Refused line) = (e ≢ unit.NoMemory) × (line ≡ refusal_line s p (unit_text tree std_tree client e))
  IsUnitRefusal e error.NoMemory = Unit {0}

  -- the package is refused for this error
  abbrev pub IsPackageRefusal : PackageUnit → CheckError → PlatformError → Type 0
  IsPackageRefusal u e (error.Refused line) = (r : Refusal) × (told_by e ≡ Some r) × (line ≡ refusal_line s p (refused_text tree std_tree client u r))
  IsPackageRefusal u e error.NoMemory = Unit {0}
