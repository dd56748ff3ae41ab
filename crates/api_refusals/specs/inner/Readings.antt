-- Files of a package that are counted as places in them come, and texts of places in their bytes.
use Rattle.std.specs.Prelude.{◌≡◌, ℕ, Option, Some, None, List, [], ◌++◌, slice_get, codes}
use Rattle.go_exposed.specs.SkippedDeclarations.{Skipped}
use Rattle.go_model.specs.declared.files.tree.Tree.{Tree}
use Rattle.go_units.specs.declared.unit.«Unit».{«Unit» as PackageUnit}
use Rattle.go_units.specs.declared.unit.UnitFile.{UnitFile}
use Rattle.api_refusals.specs.Places.{bytes_at, place_text}
use Rattle.api_refusals.specs.Refusals.{files_in}
use Rattle.api_refusals.specs.Roots.{file_name, root_by}
use Rattle.api_refusals.specs.SkippedTexts.{listed_names, why}
use Rattle.api_refusals.specs.declared.reading.Reading.{Reading}
use Rattle.api_refusals.specs.declared.root.Root.{Root}
use Rattle.api_refusals.specs.inner.Counts.{Counts}

module _ (tree std_tree : Tree) where
  -- the bytes of a file: none, where there is no such file
  abbrev pub bytes_of : Root → Option UnitFile → List ℕ
  bytes_of r None = []
  bytes_of r (Some f) = bytes_at (files_in tree std_tree [] r) f.path

  -- a reading is of the file of its number, with a count of its bytes
  pub record IsReading (u : PackageUnit) (reading : Reading) : Type 0 where
    pub bytes : reading.bytes.now ≡ bytes_of (root_by u.from_std u.path) (slice_get u.files reading.number)
    pub counts : Counts reading.bytes.now reading.count

-- `FILE:LINE:COLUMN` in these bytes
abbrev pub place_with : List ℕ → Root → Option UnitFile → ℕ → List ℕ
place_with bytes r None offset = []
place_with bytes r (Some f) offset = file_name r f.path ++ place_text bytes offset

-- `FILE:LINE:COLUMN NAME: CAUSE` in these bytes
abbrev pub skipped_with : List ℕ → PackageUnit → Skipped → List ℕ
skipped_with bytes u s = place_with bytes (root_by u.from_std u.path) (slice_get u.files s.place.file) s.place.offset ++ codes " " ++ listed_names s.names ++ codes ": " ++ why s.cause
