-- Struct and interface types, by their levels.
-- Public source: Go specification, "Struct types" and "Interface types".
use Rattle.std.specs.Prelude.{◌||◌, Bool, true, false}
use Rattle.go_model.specs.types.Terms.{Layer}
use Rattle.go_model.specs.declared.types.term.Term.{Term-F}

abbrev pub struct_layer : Layer → Bool
struct_layer (Term-F.Struct fs) = true
struct_layer l = false

abbrev pub interface_layer : Layer → Bool
interface_layer (Term-F.Interface ms) = true
interface_layer l = false

-- a struct or an interface
abbrev pub is_structured : Layer → Bool
is_structured l = struct_layer l || interface_layer l
