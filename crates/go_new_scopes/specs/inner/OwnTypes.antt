-- The defined types that a package declares first under their names, as objects.
-- Own: words of the contracts inside this crate.
use Rattle.std.specs.Prelude.{ℕ, suc, if◌then◌else◌, List, [], ◌∷◌, is_some}
use Rattle.go_declared.specs.NameTables.{is_first}
use Rattle.go_declared.specs.declared.names.NamePlace.{NamePlace}
use Rattle.go_model.specs.declared.types.package.Entity.TheVariants as entity
use Rattle.go_rules.specs.Names.{Named, value_at, with_value}
use Rattle.go_rules.specs.declared.seen.Seen.{Seen}
use Rattle.go_rules.specs.declared.seen.Seen.TheVariants as seen
use Rattle.go_typings.specs.Declarations.{Declaration, Form, definition}
use Rattle.go_typings.specs.PackageEnvironments.{own_type}

-- what the name of a type means in the package of this path
abbrev pub type_object : List ℕ → List ℕ → Seen
type_object path name = seen.Object (entity.TypeOf (own_type path name))

-- with the type, unless its name means something already
abbrev pub with_type : List ℕ → Named Seen → List ℕ → Named Seen
with_type path t name = if is_some (value_at t name) then t else with_value t name (type_object path name)

abbrev pub with_form : List ℕ → Named NamePlace → Named Seen → ℕ → Form → Named Seen
with_form path names t number (definition s) = if is_first names number s.name.text then with_type path t s.name.text else t
with_form path names t number f = t

-- with the types of these declarations, which are numbered from one on
abbrev pub with_declarations : List ℕ → Named NamePlace → Named Seen → ℕ → List Declaration → Named Seen
with_declarations path names t number [] = t
with_declarations path names t number (d ∷ ds) = with_declarations path names (with_form path names t number d.form) (suc number) ds
