-- The numbers of the methods of defined types, by the names of the methods: a table for each declaration, which is empty
-- where it declares no defined type.
-- Own: an index.
use Rattle.std.specs.Prelude.{ℕ, if◌then◌else◌, List, [], ◌∷◌, ◌++◌, map, get_or, Option, None, Some}
use Rattle.go_rules.specs.Expressions.{is_blank}
use Rattle.go_rules.specs.Names.{Named, items_at, value_at, with_value}
use Rattle.go_declared.specs.MethodTables.{method_name}
use Rattle.go_declared.specs.declared.methods.MethodRow.{MethodRow}
use Rattle.go_declared.specs.declared.names.NamePlace.{NamePlace}
use Rattle.go_typings.specs.Declarations.{Form, definition, Declaration}

abbrev pub Numbered : Type 0
Numbered = Named (List ℕ)

-- the name has a number more
abbrev pub with_number : Numbered → List ℕ → ℕ → Numbered
with_number t name n = with_value t name (items_at t name ++ n ∷ [])

-- the methods of these rows more, by their names
abbrev pub with_methods : List Declaration → Numbered → List MethodRow → Numbered
with_methods ds t [] = t
with_methods ds t (r ∷ rs) = with_methods ds (with_number t (method_name ds r.number) r.number) rs

-- the methods of the defined type that a declaration declares
abbrev pub table_by : List Declaration → Named (List MethodRow) → Form → Numbered
table_by ds methods (definition s) = with_methods ds [] (items_at methods s.name.text)
table_by ds methods f = []

abbrev pub tables_from : List Declaration → Named (List MethodRow) → List Declaration → List Numbered
tables_from all methods ds = map (λ d. table_by all methods d.form) ds

abbrev pub tables_of : List Declaration → Named (List MethodRow) → List Numbered
tables_of ds methods = tables_from ds methods ds

abbrev pub table_at : List Numbered → Option NamePlace → Numbered
table_at tables None = []
table_at tables (Some p) = get_or tables p.number []

-- the numbers of the methods of this name that the type of that name has, where a selector can find them
abbrev pub numbers_at : List Numbered → Named NamePlace → List ℕ → List ℕ → List ℕ
numbers_at tables names type name = if is_blank name then [] else items_at (table_at tables (value_at names type)) name
