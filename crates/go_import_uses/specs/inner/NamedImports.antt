-- The imports of a file by their names, as an ordered map holds them.
-- Own.
use Rattle.std.specs.Prelude.{◌≡◌, ℕ, if◌then◌else◌, List, map, Some}
use Rattle.std.specs.Str.{bytes_eq}
use denote.Ref.{Bor}
use Rattle.go_base.specs.Keys.{first_with}
use Rattle.go_import_uses.specs.Selecting.{borrowed}
use Rattle.go_sources.specs.UnitSources.{import_of}
use Rattle.go_typings.specs.Sources.{import_name}
use Rattle.go_typings.specs.go_rules.Names.{Named, value_at}
use Rattle.go_units.specs.declared.unit.UsedImport.{UsedImport}

-- each name has the first import of that name
abbrev pub AreNamed : List UsedImport → Named (Bor UsedImport) → Type 0
AreNamed is entries = (name : List ℕ) → borrowed (value_at entries name) ≡ first_with import_name (map import_of is) name

-- the name of the import has it, and any other what it had
abbrev pub Names : UsedImport → Named (Bor UsedImport) → Named (Bor UsedImport) → Type 0
Names i old new = (name : List ℕ) → borrowed (value_at new name) ≡ (if bytes_eq i.name name then Some (import_of i) else borrowed (value_at old name))
