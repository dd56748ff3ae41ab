-- Tables that tell which methods of one name are declared for the defined types of a package.
-- Public source: Go specification, "Method declarations".
use Rattle.std.specs.Prelude.{◌≡◌, ℕ, Bool, List, map, filter}
use Rattle.std.specs.Str.{bytes_eq}
use Rattle.go_rules.specs.Names.{Named, items_at}
use Rattle.go_declarations.specs.go_typings.Declarations.{declarations, Declaration}
use Rattle.go_declarations.specs.go_typings.Receivers.{DeclaredMethod, declared_methods}
use Rattle.go_declarations.specs.go_typings.Sources.{PackageSource}
use Rattle.go_declared.specs.MethodTables.{method_of}
use Rattle.go_declared.specs.declared.methods.MethodRow.{MethodRow}

-- the methods of the type that have the name
abbrev pub rows_at : Named (Named (List MethodRow)) → List ℕ → List ℕ → List MethodRow
rows_at t type name = items_at (items_at t type) name

abbrev pub has_name : List ℕ → DeclaredMethod → Bool
has_name name m = bytes_eq m.sel.name name

-- the table tells the methods of each name that are declared for each type
abbrev pub AreNamesakes : List Declaration → Named (Named (List MethodRow)) → Type 0
AreNamesakes ds t = (u : PackageSource) → declarations u ≡ ds → (type name : List ℕ) → map (method_of u) (rows_at t type name) ≡ filter (has_name name) (declared_methods u type)
