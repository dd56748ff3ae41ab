-- The units of a module's tree on a platform, over the standard library's tree.
-- Public source: Go specification, "Packages", "Import declarations". Own: the order of refusals.
use Rattle.std.specs.Prelude.{ℕ, List, Result, Err}
use Rattle.go_model.specs.declared.files.platform.Platform.{Platform}
use Rattle.go_model.specs.declared.files.tree.Tree.{Tree}
use Rattle.go_reading.specs.TreeFolders.{AreTreeFolders, ReadsFolder}
use Rattle.go_units.specs.UnitsOfModules.{Answers}
use Rattle.go_units.specs.declared.folder.Folder.{Folder}
use Rattle.go_units.specs.declared.unit_error.UnitError.{UnitError}
use Rattle.go_units.specs.declared.unit_error.UnitError.TheVariants as error
use Rattle.go_units.specs.declared.unit_list.Units.{Units}

module _ (p : Platform) (barred : List (List ℕ)) (tree std_tree : Tree) where
  -- what is answered of the folders of the trees
  abbrev pub AnswersOfTrees : Result Units UnitError → Type 0
  AnswersOfTrees r = (folders : List Folder) × AreTreeFolders p barred tree std_tree folders × Answers tree.module folders (ReadsFolder p barred tree std_tree folders) r

  -- the units of the module, or the first refusal; want of memory may come at any time
  abbrev pub AreUnitsOfTrees : Result Units UnitError → Type 0
  AreUnitsOfTrees (Err error.NoMemory) = Unit {0}
  AreUnitsOfTrees r = AnswersOfTrees r
