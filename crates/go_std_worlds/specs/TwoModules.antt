-- The units of two modules over one tree of the standard library.
-- Own: the paths of both modules are barred there.
use Rattle.std.specs.Prelude.{ℕ, List, map, Ok}
use Rattle.go_base.specs.Lists.{Has}
use Rattle.go_model.specs.declared.files.platform.Platform.{Platform}
use Rattle.go_model.specs.declared.files.tree.Tree.{Tree}
use Rattle.go_reading.specs.TreeUnits.{AreUnitsOfTrees}
use Rattle.go_sources.specs.UnitSources.{source_of}
use Rattle.go_typings.specs.Sources.{PackageSource}
use Rattle.go_units.specs.declared.unit_list.Units.{Units}

-- the packages that units are, in their order
abbrev pub sources_of : Units → List PackageSource
sources_of units = map source_of units.packages

-- units of each of two modules, on one platform
pub record AreOfTwoModules (p : Platform) (barred : List (List ℕ)) (std_tree old_tree new_tree : Tree) (old new : Units) : Type 0 where
  pub old_barred : Has barred old_tree.module
  pub new_barred : Has barred new_tree.module
  pub old_units : AreUnitsOfTrees p barred old_tree std_tree (Ok old)
  pub new_units : AreUnitsOfTrees p barred new_tree std_tree (Ok new)
