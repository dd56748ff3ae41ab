-- The package that a unit is, as it is written.
-- Public source: Go specification, "Packages" and "Source file organization".
use Rattle.std.specs.Prelude.{map}
use Rattle.go_typings.specs.Sources.{Import, PackageSource, SourceFile}
use Rattle.go_units.specs.declared.unit.«Unit».{«Unit» as PackageUnit}
use Rattle.go_units.specs.declared.unit.UnitFile.{UnitFile}
use Rattle.go_units.specs.declared.unit.UsedImport.{UsedImport}

abbrev pub import_of : UsedImport → Import
import_of i = record { name = i.name; path = i.path; is_found = i.found; place = i.place }

abbrev pub file_of : UnitFile → SourceFile
file_of f = record { imports = map import_of f.imports; declarations = f.outline.decls }

abbrev pub source_of : PackageUnit → PackageSource
source_of u = record { path = u.path; name = u.name; from_std = u.from_std; files = map file_of u.files }
