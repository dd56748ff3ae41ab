-- The methods that types show: those of a name once all of them are had.
-- Own: words of the contracts inside this crate.
use Rattle.std.specs.Prelude.{ℕ, Bool, true, ◌&&◌, ◌||◌, not, if◌then◌else◌, List, [], ◌∷◌, is_some}
use Rattle.go_base.specs.Gathered.{gather}
use Rattle.go_declared.specs.MethodTables.{method_name}
use Rattle.go_declared.specs.NamesakeTables.{rows_at}
use Rattle.go_declared.specs.declared.methods.MethodRow.{MethodRow}
use Rattle.go_model.specs.declared.types.package.MethodOf.{MethodOf}
use Rattle.go_rules.specs.Expressions.{is_blank}
use Rattle.go_rules.specs.Names.{Named}
use Rattle.go_rules.specs.Scopes.{Scopes, with_method}
use Rattle.go_typings.specs.Declarations.{Declaration}
use Rattle.go_typings.specs.PackageEnvironments.{Entries, had_of, signature_of}
use Rattle.go_typings.specs.Receivers.{DeclaredMethod, selector}

-- each of these methods is had
abbrev pub are_had : Entries → List MethodRow → Bool
are_had a [] = true
are_had a (r ∷ rs) = is_some (signature_of (a r.number)) && are_had a rs

-- the method of this name that a row is, in the package of this path
abbrev pub as_method : List ℕ → List ℕ → MethodRow → DeclaredMethod
as_method path name r = record { number = r.number; sel = selector path name; pointer = r.pointer }

-- it, where its signature is had
abbrev pub had_row : Entries → List ℕ → List ℕ → MethodRow → List MethodOf
had_row a path name r = had_of (as_method path name r) (signature_of (a r.number))

-- the methods of the name, where each is had
abbrev pub shown_rows : Entries → List ℕ → List ℕ → List MethodRow → List MethodOf
shown_rows a path name rs = if are_had a rs then gather (had_row a path name) rs else []

-- a method of a type, where it isn't blank and each that has its name is had
abbrev pub shown_row : Entries → List ℕ → List ℕ → List MethodRow → MethodRow → List MethodOf
shown_row a path name all r = if is_blank name || not (are_had a all) then [] else had_row a path name r

-- the methods of a type that are shown
abbrev pub shown_of : Entries → List Declaration → List ℕ → Named (Named (List MethodRow)) → List ℕ → List MethodRow → List MethodOf
shown_of a ds path t type rs = gather (λ r. shown_row a path (method_name ds r.number) (rows_at t type (method_name ds r.number)) r) rs

-- the type of this name with these methods more, one after another, where it is had
abbrev pub with_each : Scopes → List ℕ → List MethodOf → Scopes
with_each c type [] = c
with_each c type (m ∷ ms) = with_each (with_method c type m) type ms
