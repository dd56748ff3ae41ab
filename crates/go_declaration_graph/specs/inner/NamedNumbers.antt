-- The numbers of the declarations that references name, and of the methods of a defined type, by tables.
-- Own: words of the contracts inside this crate.
use Rattle.std.specs.Prelude.{ℕ, Bool, ◌&&◌, if◌then◌else◌, List, [], ◌∷◌, ◌++◌, map, Option, None, Some, is_some}
use Rattle.go_base.specs.Gathered.{gather}
use Rattle.go_declared.specs.declared.methods.MethodRow.{MethodRow}
use Rattle.go_declared.specs.declared.names.NamePlace.{NamePlace}
use Rattle.go_references.specs.declared.references.Reference.{Reference}
use Rattle.go_rules.specs.Names.{Named, items_at, value_at}
use Rattle.go_typings.specs.DeclarationNodes.{references}
use Rattle.go_typings.specs.Declarations.{Form, definition}
use Rattle.go_declaration_graph.specs.declared.field_keys.FieldKey.{FieldKey}
use Rattle.go_declaration_graph.specs.inner.FieldKeys.{is_among}

abbrev pub number_in : Option NamePlace → List ℕ
number_in None = []
number_in (Some p) = p.number ∷ []

-- the number of the declaration of the name
abbrev pub named : Named NamePlace → Reference → List ℕ
named names r = number_in (value_at names r.name.text)

-- the reference is a key, and the name of a declaration
abbrev pub is_declared_key : Named NamePlace → Reference → Bool
is_declared_key names r = r.is_key && is_some (value_at names r.name.text)

-- the reference is the key of a field
abbrev pub names_field : List FieldKey → Reference → Bool
names_field keys r = r.is_key && is_among r.name keys

-- the number of the declaration of the name, where it isn't that of a field
abbrev pub counted : Named NamePlace → List FieldKey → Reference → List ℕ
counted names keys r = if names_field keys r then [] else named names r

abbrev pub number_of : MethodRow → ℕ
number_of r = r.number

-- the methods of the defined type that is declared
abbrev pub own_methods : Named (List MethodRow) → Form → List ℕ
own_methods methods (definition s) = map number_of (items_at methods s.name.text)
own_methods methods f = []

-- the declarations of the names, and the methods of the defined type that is declared
abbrev pub dependencies : Named NamePlace → Named (List MethodRow) → Form → List ℕ
dependencies names methods f = gather (named names) (references f) ++ own_methods methods f
