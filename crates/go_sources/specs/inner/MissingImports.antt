-- The first import of a file, and of files from one on, that isn't found.
-- Own: words of the contracts inside this crate.
use Rattle.std.specs.Prelude.{ℕ, List, map, Option, None, Some}
use Rattle.go_syntax.specs.declared.name.Place.{Place}
use Rattle.go_typings.specs.Sources.{Import}
use Rattle.go_typings.specs.Refusals.{import_at, IsFirstMissing}
use Rattle.go_units.specs.declared.unit.UsedImport.{UsedImport}
use Rattle.go_sources.specs.UnitSources.{import_of}

abbrev pub Misses : List (ℕ × Import) → Option Place → Type 0
Misses is None = (p : Place) → IsFirstMissing is p → ⊥
Misses is (Some p) = IsFirstMissing is p

abbrev pub MissesIn : ℕ → List UsedImport → Option Place → Type 0
MissesIn file is found = Misses (map (import_at file) (map import_of is)) found
