-- Tables that tell which methods are declared for the defined types of a package.
-- Public source: Go specification, "Method declarations".
use Rattle.std.specs.Prelude.{◌≡◌, ℕ, List, [], map, Option, None, Some, slice_get}
use Rattle.go_rules.specs.Names.{Named, items_at}
use Rattle.go_declarations.specs.go_typings.Declarations.{declarations, Declaration, Form, method}
use Rattle.go_declarations.specs.go_typings.Receivers.{DeclaredMethod, declared_methods, selector}
use Rattle.go_declarations.specs.go_typings.Sources.{PackageSource}
use Rattle.go_declared.specs.declared.methods.MethodRow.{MethodRow}

abbrev pub name_by : Form → List ℕ
name_by (method receiver f) = f.name.text
name_by f = []

abbrev pub name_in : Option Declaration → List ℕ
name_in None = []
name_in (Some d) = name_by d.form

-- the name of the method that the declaration of a number declares
abbrev pub method_name : List Declaration → ℕ → List ℕ
method_name ds n = name_in (slice_get ds n)

-- the method that a row is
abbrev pub method_of : PackageSource → MethodRow → DeclaredMethod
method_of u r = record { number = r.number; sel = selector u.path (method_name (declarations u) r.number); pointer = r.pointer }

-- the table tells the methods that are declared for each type
abbrev pub AreMethods : List Declaration → Named (List MethodRow) → Type 0
AreMethods ds t = (u : PackageSource) → declarations u ≡ ds → (type : List ℕ) → map (method_of u) (items_at t type) ≡ declared_methods u type
