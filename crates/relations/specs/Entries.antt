-- What a map of defined types by path and name holds for a name.
-- Own: words of the contracts inside this program.
use Rattle.std.specs.Prelude.{ℕ, List, option_and_then, bytes_eq}
use Rattle.indexmap.specs.IndexMap.{IndexMap, get_by}
use Rattle.go_model.specs.types.Tables.{Table}
use Rattle.go_model.specs.declared.types.names.TypeName.{TypeName}
use Rattle.go_model.specs.declared.types.package.Defined.{Defined}

-- the defined type of the name
abbrev pub held : {S T : Type 0} → IndexMap (List ℕ) (IndexMap (List ℕ) Defined T) S → Table
held packages name = option_and_then (get_by (bytes_eq name.name)) (get_by (bytes_eq name.path) packages)
