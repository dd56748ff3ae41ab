-- What is left out of the trees of a module and of the standard library on a platform, as lines.
-- Own: this project's reports.
use Rattle.std.specs.Prelude.{◌≡◌, ℕ, List, [], ◌∷◌, ◌++◌, map}
use Rattle.go_base.specs.Keys.{placed}
use Rattle.go_exposed.specs.SkippedDeclarations.{Skipped}
use Rattle.go_exposed.specs.SkippedWorlds.{AreSkipped}
use Rattle.go_model.specs.declared.files.platform.Platform.{Platform}
use Rattle.go_model.specs.declared.files.tree.Tree.{Tree}
use Rattle.go_model.specs.files.Platforms.{bits_of}
use Rattle.go_units.specs.declared.unit.«Unit».{«Unit» as PackageUnit}
use Rattle.go_units.specs.declared.unit_list.Units.{Units}
use Rattle.api_refusals.specs.SkippedTexts.{skipped_texts}
use Rattle.api_worlds.specs.declared.left_out.PackageLines.{PackageLines}
use Rattle.api_worlds.specs.PlatformWorlds.{AreUnitsOn, sources_of}

abbrev pub path_of : PackageLines → List ℕ
path_of p = p.path

-- with those of one more package in their place by its path; of a package of which nothing is left out there are none
abbrev pub with_lines : List ℕ → List (List ℕ) → List PackageLines → List PackageLines
with_lines path [] ps = ps
with_lines path (line ∷ lines) ps = placed path_of (record { path = path; lines = line ∷ lines }) ps

abbrev pub all_lines : List PackageLines → List (List ℕ)
all_lines [] = []
all_lines (p ∷ ps) = p.lines ++ all_lines ps

module _ (tree std_tree : Tree) where
  -- those of packages, each of which stands beside what is left out of it, and of packages before them
  abbrev pub lines_with : List PackageLines → List PackageUnit → List (List Skipped) → List PackageLines
  lines_with ps [] xss = ps
  lines_with ps (u ∷ us) [] = ps
  lines_with ps (u ∷ us) (xs ∷ xss) = lines_with (with_lines u.path (skipped_texts tree std_tree u xs) ps) us xss

module _ (barred : List (List ℕ)) (tree std_tree : Tree) where
  -- what is left out of the packages on a platform: by the packages' paths, and in each by file and place
  pub record AreLeftOutOn (p : Platform) (lines : List (List ℕ)) : Type 0 where
    pub units : Units
    pub are : AreUnitsOn barred tree std_tree p units
    pub skipped : List (List Skipped)
    pub skips : AreSkipped (bits_of p) (sources_of units) skipped
    pub «is» : lines ≡ all_lines (lines_with tree std_tree [] units.packages skipped)
