-- The first import of a file, and of files from one on, that is needed.
use Rattle.std.specs.Prelude.{ℕ, List, map, Option, None, Some}
use Rattle.go_exposed.specs.Refusals.{IsFirstMissing}
use Rattle.go_sources.specs.UnitSources.{import_of}
use Rattle.go_syntax.specs.declared.name.Place.{Place}
use Rattle.go_typings.specs.Refusals.{import_at}
use Rattle.go_typings.specs.Sources.{Import, PackageSource}
use Rattle.go_units.specs.declared.unit.UsedImport.{UsedImport}

abbrev pub Needs : PackageSource → List (ℕ × Import) → Option Place → Type 0
Needs u is None = (p : Place) → IsFirstMissing u is p → ⊥
Needs u is (Some p) = IsFirstMissing u is p

abbrev pub NeedsIn : PackageSource → ℕ → List UsedImport → Option Place → Type 0
NeedsIn u file is found = Needs u (map (import_at file) (map import_of is)) found
