-- Types of other packages than a client's, and named types.
-- Public source: Go specification, "Types" for named types; what a client may do with the types of other packages is own.
use Rattle.std.specs.Prelude.{◌||◌, ◌&&◌, not, Bool, true, false, []}
use Rattle.std.specs.Str.{bytes_eq}
use Rattle.go_model.specs.types.Tables.{Table}
use Rattle.go_model.specs.declared.types.names.TypeName.{TypeName}
use Rattle.go_model.specs.declared.types.term.Term.{Term, Term-F, out-Term}
use Rattle.go_model.specs.types.Terms.{Layer, client_path}
use Rattle.go_model.specs.types.Underlying.{under}

-- a predeclared or a defined type
abbrev pub is_named_layer : Layer → Bool
is_named_layer (Term-F.Plain b) = true
is_named_layer (Term-F.Named n) = true
is_named_layer l = false

abbrev pub is_named : Term → Bool
is_named t = is_named_layer (out-Term t)

-- a type of another package than the client's, and not predeclared
abbrev pub is_imported : TypeName → Bool
is_imported n = not (bytes_eq n.path []) && not (bytes_eq n.path client_path)

abbrev pub imported_struct : Layer → Layer → Bool
imported_struct (Term-F.Named n) (Term-F.Struct fs) = is_imported n
imported_struct l u = false

abbrev pub imported_interface : Layer → Layer → Bool
imported_interface (Term-F.Named n) (Term-F.Interface ms) = is_imported n
imported_interface l u = false

-- a defined struct type of another package
abbrev pub is_imported_struct : Table → Term → Bool
is_imported_struct T t = imported_struct (out-Term t) (under T t)

-- a defined interface type of another package
abbrev pub is_imported_interface : Table → Term → Bool
is_imported_interface T t = imported_interface (out-Term t) (under T t)

abbrev pub is_imported_open : Table → Term → Bool
is_imported_open T t = is_imported_struct T t || is_imported_interface T t
