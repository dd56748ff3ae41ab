-- The fault lines of what is refused on a platform: files, packages, and declarations.
-- Own: this project's reports and exit statuses.
use Rattle.std.specs.Prelude.{ℕ, Option, Some, None, List, [], ◌++◌, slice_get, codes}
use Rattle.go_model.specs.declared.files.platform.Platform.{Platform}
use Rattle.go_model.specs.declared.files.tree.Tree.{Tree}
use Rattle.go_model.specs.declared.files.tree.TreeFile.{TreeFile}
use Rattle.go_model.specs.files.Platforms.{name_of}
use Rattle.go_syntax.specs.declared.name.Place.{Place}
use Rattle.go_typings.specs.Refusals.{Refusal, redeclared, missing_import, unsound}
use Rattle.go_units.specs.declared.reader.FileFault.{FileFault}
use Rattle.go_units.specs.declared.reader.FileFault.TheVariants as fault
use Rattle.go_units.specs.declared.unit.«Unit».{«Unit» as PackageUnit}
use Rattle.go_units.specs.declared.unit.UnitFile.{UnitFile}
use Rattle.go_units.specs.declared.unit_error.UnitError.{UnitError}
use Rattle.go_units.specs.declared.unit_error.UnitError.TheVariants as error
use Rattle.api_texts.specs.FaultLines.{fault_line, side_name}
use Rattle.api_refusals.specs.Places.{bytes_at, place_text}
use Rattle.api_refusals.specs.Roots.{file_name, root_by, root_of}
use Rattle.api_refusals.specs.declared.root.Root.{Root}
use Rattle.api_refusals.specs.declared.root.Root.TheVariants as root
use Rattle.api_texts.specs.declared.lines.Side.{Side}

-- what is wrong with a declaration, and where
abbrev pub cause_text : Refusal → List ℕ
cause_text (redeclared place) = codes ": declared twice"
cause_text (missing_import place) = codes ": import not found"
cause_text (unsound place) = codes ": declaration has no typing"

abbrev pub place_of : Refusal → Place
place_of (redeclared place) = place
place_of (missing_import place) = place
place_of (unsound place) = place

-- ---- what is refused in the trees of a module and of the standard library, and among the files of a client

module _ (tree std_tree : Tree) (client : List TreeFile) where
  abbrev pub files_in : Root → List TreeFile
  files_in root.Module = tree.files
  files_in root.Std = std_tree.files
  files_in root.Client = client

  -- `FILE:LINE:COLUMN`
  abbrev pub place_in : Root → List ℕ → ℕ → List ℕ
  place_in r path offset = file_name r path ++ place_text (bytes_at (files_in r) path) offset

  -- why a file is refused
  abbrev pub file_text : Root → List ℕ → FileFault → List ℕ
  file_text r path fault.BadExpression = file_name r path ++ codes ": go:build line not understood"
  file_text r path fault.Twice = file_name r path ++ codes ": two go:build lines"
  file_text r path fault.PlusBuild = file_name r path ++ codes ": +build without go:build"
  file_text r path (fault.BadToken offset) = place_in r path offset ++ codes ": not a token"
  file_text r path fault.Syntax = file_name r path ++ codes ": not in the grammar of this profile"

  -- why the packages of the trees are refused; want of memory has a line of its own
  abbrev pub unit_text : UnitError → List ℕ
  unit_text (error.File at f) = file_text (root_of tree.module at.path) at.file f
  unit_text (error.MixedNames path) = path ++ codes ": two package names"
  unit_text (error.InternalUse at offset) = place_in (root_of tree.module at.path) at.file offset ++ codes ": internal package"
  unit_text (error.Cycle path) = path ++ codes ": import cycle"
  unit_text error.NoMemory = codes "out of memory"

  -- ---- declarations

  -- a place in a file of a package
  abbrev pub file_place : Root → Option UnitFile → ℕ → List ℕ
  file_place r None offset = []
  file_place r (Some f) offset = place_in r f.path offset

  abbrev pub unit_place : PackageUnit → Place → List ℕ
  unit_place u place = file_place (root_by u.from_std u.path) (slice_get u.files place.file) place.offset

  -- why a package is refused
  abbrev pub refused_text : PackageUnit → Refusal → List ℕ
  refused_text u r = unit_place u (place_of r) ++ cause_text r

  -- that of a package that may be lacking: the cause alone, where it is
  abbrev pub text_of_some : Option PackageUnit → Refusal → List ℕ
  text_of_some None r = cause_text r
  text_of_some (Some u) r = refused_text u r

  -- why the package of a number is refused
  abbrev pub package_text : List PackageUnit → ℕ → Refusal → List ℕ
  package_text units n r = text_of_some (slice_get units n) r

-- ---- lines

-- what is refused while the trees of a side are taken on a platform
abbrev pub refusal_line : Side → Platform → List ℕ → List ℕ
refusal_line s p text = fault_line (side_name s ++ codes " " ++ name_of p) text
