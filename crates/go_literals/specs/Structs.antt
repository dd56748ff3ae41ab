-- Elements of literals of struct types.
-- Public source: Go specification, "Composite literals"; which literals a client of the profile may write without keys
-- is own.
use Rattle.std.specs.Prelude.{◌≡◌, ◌⊎◌, ◌&&◌, ℕ, Bool, true, false, List, [], ◌∷◌, Option, None, Some}
use Rattle.go_base.specs.Lists.{Once}
use Rattle.go_model.specs.declared.types.term.Field.{Field}
use Rattle.go_model.specs.declared.types.term.Term.{Term}
use Rattle.go_model.specs.types.Imports.{is_imported_struct}
use Rattle.go_rules.specs.Environments.{Env, Entered}
use Rattle.go_rules.specs.Expressions.{HasKeyed, HasUnkeyed}
use Rattle.go_syntax.specs.declared.expression.Element.{Element, out-Element}
use Rattle.go_syntax.specs.declared.expression.ElementValue.{ElementValue}

-- values of fields by their names, each name once
abbrev pub AreKeyed : Env → List Field → List Element → Type 0
AreKeyed E fs xs = (ns : List (List ℕ)) × HasKeyed E fs xs ns × Once ns

-- a literal of the type may have elements without keys
abbrev pub MayBeUnkeyed : Env → Term → Type 0
MayBeUnkeyed E t = Entered E t × ((E.profile && is_imported_struct E.table t) ≡ false)

-- a value for each field in order, where there may be
abbrev pub AreUnkeyed : Env → Term → List Field → List Element → Type 0
AreUnkeyed E t fs xs = MayBeUnkeyed E t × HasUnkeyed E fs xs

-- the elements of a literal of the struct type with these fields
abbrev pub StructFits : Env → Term → List Field → List Element → Type 0
StructFits E t fs xs = AreKeyed E fs xs ⊎ AreUnkeyed E t fs xs

abbrev pub is_there : Option ElementValue → Bool
is_there None = false
is_there (Some v) = true

-- elements that begin with a key, or none
abbrev pub names_fields : List Element → Bool
names_fields [] = true
names_fields (x ∷ xs) = is_there (out-Element x).key
