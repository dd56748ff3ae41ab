-- What is underneath a type in a table of defined types.
-- Public source: Go specification, "Underlying types", "Type definitions" and "Method declarations".
use Rattle.std.specs.Prelude.{List, [], Option, Some, None, if◌then◌else◌}
use Rattle.go_model.specs.types.Tables.{Table}
use Rattle.go_model.specs.declared.types.names.TypeName.{TypeName}
use Rattle.go_model.specs.declared.types.package.Defined.{Defined}
use Rattle.go_model.specs.declared.types.package.MethodOf.{MethodOf}
use Rattle.go_model.specs.declared.types.term.Term.{Term, Term-F, out-Term}
use Rattle.go_model.specs.declared.types.term.Field.{Field}
use Rattle.go_model.specs.declared.types.term.Method.{Method}
use Rattle.go_model.specs.types.Terms.{Layer, is_error, error_type}

-- the defined type of a name; `error` stands before the table
abbrev pub entry : Table → TypeName → Option Defined
entry T n = if is_error n then Some error_type else T n

-- what is underneath a name: a name without an entry has no structure and stays
abbrev pub under_entry : TypeName → Option Defined → Layer
under_entry n None = Term-F.Named n
under_entry n (Some d) = out-Term d.underlying

abbrev pub under_layer : Table → Layer → Layer
under_layer T (Term-F.Named n) = under_entry n (entry T n)
under_layer T l = l

-- the level of the underlying type
abbrev pub under : Table → Term → Layer
under T t = under_layer T (out-Term t)

-- the methods that are declared for a defined type
abbrev pub methods_of_entry : Option Defined → List MethodOf
methods_of_entry None = []
methods_of_entry (Some d) = d.methods

abbrev pub declared_methods : Table → Layer → List MethodOf
declared_methods T (Term-F.Named n) = methods_of_entry (entry T n)
declared_methods T l = []

-- the fields of a struct type
abbrev pub fields_of : Layer → List Field
fields_of (Term-F.Struct fs) = fs
fields_of l = []

-- the methods of an interface type
abbrev pub methods_of : Layer → List Method
methods_of (Term-F.Interface ms) = ms
methods_of l = []
