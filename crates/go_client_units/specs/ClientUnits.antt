-- The units of a module with a client on a platform: its packages with those of the standard library that these and the client reach, and the client's own unit; or the first refusal.
-- Public source: Go specification, "Packages", "Import declarations". Own: the client's path and place: it is read after the module's folders and before those of the standard library.
use Rattle.std.specs.Prelude.{◌≡◌, ◌⊎◌, ◌<◌, ℕ, false, Option, Some, None, List, [], length, Result, Ok, Err}
use Rattle.go_client_files.specs.ClientFiles.{ReadsClient}
use Rattle.go_client_files.specs.declared.uses.ClientFiles.{ClientFiles}
use Rattle.go_client_units.specs.declared.units.ClientUnit.{ClientUnit}
use Rattle.go_client_units.specs.declared.units.ClientUnits.{ClientUnits}
use Rattle.go_client_walks.specs.ClientWalks.{AllAreRead, Answers, IsOwnRefusal, ModuleIsRead}
use Rattle.go_imports.specs.Gives.{Gives}
use Rattle.go_model.specs.declared.files.platform.Platform.{Platform}
use Rattle.go_model.specs.declared.files.tree.Tree.{Tree}
use Rattle.go_model.specs.types.Terms.{client_path}
use Rattle.go_client_files.specs.go_reading.TreeFolders.{AreTreeFolders, ReadsFolder}
use Rattle.go_syntax.specs.declared.statement.LiteralBlock.{LiteralBlock}
use Rattle.go_units.specs.Reached.{ReadFolders}
use Rattle.go_units.specs.UnitsOfModules.{AreUnits, GivesUnitFile, packages_in}
use Rattle.go_units.specs.declared.folder.Folder.{Folder}
use Rattle.go_units.specs.declared.reader.Reading.{Reading}
use Rattle.go_units.specs.declared.unit.UnitFile.{UnitFile}
use Rattle.go_units.specs.declared.unit_error.UnitError.{UnitError}
use Rattle.go_units.specs.declared.unit_error.UnitError.TheVariants as error

-- the client with these files, whose name and needs are those of every unit
pub record IsClientWith (files : List UnitFile) (blocks : List (List LiteralBlock)) (c : ClientUnit) : Type 0 where
  pub some : 0 < length files
  pub path : c.unit.path ≡ client_path
  pub side : c.unit.from_std ≡ false
  pub files_are : c.unit.files ≡ files
  pub blocks_are : c.blocks ≡ blocks

-- there is none where no file remains
abbrev pub IsClientOf : List UnitFile → List (List LiteralBlock) → Option ClientUnit → Type 0
IsClientOf files blocks None = length files ≡ 0
IsClientOf files blocks (Some c) = IsClientWith files blocks c

module _ (module_path : List ℕ) (folders : List Folder) (gives : ℕ → Reading → Type 0) where
  -- the units, where the client has these files
  pub record AreUnitsWith (list : ClientFiles) (r : ClientUnits) : Type 0 where
    pub slots : ReadFolders
    pub read : AllAreRead list.files module_path folders gives slots
    pub packages : AreUnits module_path folders slots r.packages.packages
    pub files : List UnitFile
    pub given : Gives (GivesUnitFile module_path folders (packages_in slots) false) list.files files
    pub client : IsClientOf files list.blocks r.client

  module _ (p : Platform) (client : Tree) where
    abbrev pub Reads : Result ClientFiles UnitError → Type 0
    Reads r = ReadsClient module_path folders p client r

    -- the refusal of a folder of the module, else of the client, else of what is read or found after that
    abbrev pub IsRefusal : UnitError → Type 0
    IsRefusal e = IsOwnRefusal module_path folders gives [] e ⊎ (((slots : ReadFolders) × ModuleIsRead module_path folders gives slots × Reads (Err e)) ⊎ ((list : ClientFiles) × Reads (Ok list) × Answers list.files module_path folders gives (Err e)))

    abbrev pub AnswersWith : Result ClientUnits UnitError → Type 0
    AnswersWith (Ok r) = (list : ClientFiles) × Reads (Ok list) × AreUnitsWith list r
    AnswersWith (Err e) = IsRefusal e

module _ (p : Platform) (barred : List (List ℕ)) (tree std_tree client : Tree) where
  -- what is answered of the folders of the trees and the client
  abbrev pub AnswersOfClient : Result ClientUnits UnitError → Type 0
  AnswersOfClient r = (folders : List Folder) × AreTreeFolders p barred tree std_tree folders × AnswersWith tree.module folders (ReadsFolder p barred tree std_tree folders) p client r

  -- the units, or the first refusal; want of memory may come at any time
  abbrev pub AreClientUnits : Result ClientUnits UnitError → Type 0
  AreClientUnits (Err error.NoMemory) = Unit {0}
  AreClientUnits r = AnswersOfClient r
