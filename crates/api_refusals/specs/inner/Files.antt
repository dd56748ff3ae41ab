-- Files behind references.
use Rattle.std.specs.Prelude.{Option}
use denote.Ref.{Bor}
use Rattle.std.specs.Option.{option_copied}
use Rattle.go_units.specs.declared.unit.UnitFile.{UnitFile}

abbrev pub copied_file : Option (Bor UnitFile) → Option UnitFile
copied_file file = option_copied file
