-- Names with entries.
use Rattle.std.specs.Prelude.{Bool, is_some}
use Rattle.go_model.specs.declared.types.names.TypeName.{TypeName}
use Rattle.go_model.specs.types.Tables.{Table}
use Rattle.go_model.specs.types.Underlying.{entry}

-- the name has an entry
abbrev pub had : Table → TypeName → Bool
had T n = is_some (entry T n)
