-- The lines of packages of which something is left out.
use Rattle.std.specs.Prelude.{List, [], ◌∷◌}
use Rattle.api_refusals.specs.SkippedTexts.{skipped_texts}
use Rattle.api_worlds.specs.LeftOut.{with_lines}
use Rattle.api_worlds.specs.declared.left_out.PackageLines.{PackageLines}
use Rattle.go_exposed.specs.SkippedValues.{all_skipped}
use Rattle.go_model.specs.declared.files.tree.Tree.{Tree}
use Rattle.go_work.specs.declared.checked.SkippedUnit.{SkippedUnit}

module _ (tree std_tree : Tree) where
  -- those of one more
  abbrev pub lines_from : List PackageLines → SkippedUnit → List PackageLines
  lines_from ps k = with_lines k.«unit».path (skipped_texts tree std_tree k.«unit» (all_skipped k.skipped)) ps

  abbrev pub kept_lines : List PackageLines → List SkippedUnit → List PackageLines
  kept_lines ps [] = ps
  kept_lines ps (k ∷ ks) = kept_lines (lines_from ps k) ks
