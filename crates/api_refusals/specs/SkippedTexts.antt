-- How reports tell a declaration that is left out of a package: where it stands, its names, and why.
-- Own: this project's reports.
use Rattle.std.specs.Prelude.{ℕ, List, [], ◌∷◌, ◌++◌, map, codes}
use Rattle.go_exposed.specs.Causes.{Cause, number, constant_type, import_not_found, by_another}
use Rattle.go_exposed.specs.SkippedDeclarations.{Skipped}
use Rattle.go_model.specs.declared.files.tree.Tree.{Tree}
use Rattle.go_units.specs.declared.unit.«Unit».{«Unit» as PackageUnit}
use Rattle.api_refusals.specs.Refusals.{unit_place}

-- why it is left out
abbrev pub why : Cause → List ℕ
why number = codes "number"
why constant_type = codes "constant type"
why import_not_found = codes "import not found"
why (by_another name) = codes "by " ++ name

-- names with a comma and a blank between them
abbrev pub listed_names : List (List ℕ) → List ℕ
listed_names [] = []
listed_names (n ∷ []) = n
listed_names (n ∷ m ∷ ns) = n ++ 44 ∷ 32 ∷ listed_names (m ∷ ns)

module _ (tree std_tree : Tree) where
  -- `FILE:LINE:COLUMN NAME: CAUSE`
  abbrev pub skipped_text : PackageUnit → Skipped → List ℕ
  skipped_text u s = unit_place tree std_tree [] u s.place ++ codes " " ++ listed_names s.names ++ codes ": " ++ why s.cause

  -- what is left out of a package
  abbrev pub skipped_texts : PackageUnit → List Skipped → List (List ℕ)
  skipped_texts u xs = map (skipped_text u) xs
