-- What every unit keeps: the files of one package, and the paths that they need.
-- Public source: Go specification, "Package clause" and "Import declarations". Own: only imports that are found are needed.
use Rattle.std.specs.Prelude.{◌≡◌, ℕ, if◌then◌else◌, List, [], ◌∷◌}
use Rattle.std.specs.BTreeSet.{insert_key}
use Rattle.std.specs.Ordering.{nat_cmp}
use Rattle.std.specs.Cmp.Lexicographic.{slice_cmp}
use Rattle.go_base.specs.Lists.{Has}
use Rattle.go_units.specs.declared.unit.UnitFile.{UnitFile}
use Rattle.go_units.specs.declared.unit.UsedImport.{UsedImport}

-- the package clauses of the files have this name
abbrev pub UnitFilesAreNamed : List UnitFile → List ℕ → Type 0
UnitFilesAreNamed files name = (f : UnitFile) → Has files f → f.outline.«package».text ≡ name

-- the paths with the one of an import among them, where that is found
abbrev pub with_import : List (List ℕ) → UsedImport → List (List ℕ)
with_import paths i = if i.found then insert_key (slice_cmp nat_cmp) paths i.path else paths

abbrev pub with_imports : List (List ℕ) → List UsedImport → List (List ℕ)
with_imports paths [] = paths
with_imports paths (i ∷ is) = with_imports (with_import paths i) is

abbrev pub with_files : List (List ℕ) → List UnitFile → List (List ℕ)
with_files paths [] = paths
with_files paths (f ∷ fs) = with_files (with_imports paths f.imports) fs

-- the paths of the found used imports of the files, each once, in the order of bytes
abbrev pub needed_by : List UnitFile → List (List ℕ)
needed_by files = with_files [] files
