-- How scopes change as the entry of a declaration is taken.
-- Own: words of the contracts inside this crate.
use Rattle.std.specs.Prelude.{ℕ, Bool, false, if◌then◌else◌, nat_eq, List, Option, None, Some}
use Rattle.go_declarations.specs.Listings.{declarations_of}
use Rattle.go_declared.specs.NamesakeTables.{rows_at}
use Rattle.go_declared.specs.declared.methods.MethodRow.{MethodRow}
use Rattle.go_declared.specs.declared.names.NamePlace.{NamePlace}
use Rattle.go_entries.specs.Entries.{entry_of}
use Rattle.go_entries.specs.HadEntries.{entries_at}
use Rattle.go_model.specs.declared.types.package.MethodOf.{MethodOf}
use Rattle.go_model.specs.declared.types.term.Term.{Term}
use Rattle.go_package_entries.specs.declared.grown.Grown.{Grown}
use Rattle.go_package_entries.specs.declared.tables.Tables.{Tables}
use Rattle.go_package_scopes.specs.KeptScopes.{with_entry}
use Rattle.go_rules.specs.Expressions.{is_blank}
use Rattle.go_rules.specs.Names.{Named, items_at, value_at}
use Rattle.go_rules.specs.Scopes.{Scopes, with_defined}
use Rattle.go_typings.specs.Declarations.{Form, definition, method, names_of}
use Rattle.go_typings.specs.PackageEnvironments.{Entries, Entry, objects, signed, underlying}
use Rattle.go_typings.specs.Receivers.{base}
use Rattle.go_package_entries.specs.inner.GivenObjects.{with_objects}
use Rattle.go_package_entries.specs.inner.ShownMethods.{shown_of, shown_rows, with_each}

-- the entries that are had, with one more
abbrev pub entries_of : Grown → Entries
entries_of g = with_entry (entries_at g.had.now) g.number (entry_of g.entry.now)

-- the declaration of this number is the first of the name
abbrev pub is_of : Option NamePlace → ℕ → Bool
is_of None number = false
is_of (Some p) number = nat_eq p.number number

-- the type is had, where it is the first of its name
abbrev pub with_type : Scopes → Bool → List ℕ → Term → List MethodOf → Scopes
with_type c first name t ms = if first then with_defined c (record { name = name; underlying = t; methods = ms }) else c

-- the type has the methods of the name that are shown, where there is one and the name isn't blank
abbrev pub with_shown : Entries → Named (Named (List MethodRow)) → Option (List ℕ) → List ℕ → Scopes → Scopes
with_shown a t None name c = c
with_shown a t (Some type) name c = if is_blank name then c else with_each c type (shown_rows a c.path name (rows_at t type name))

-- an entry of the kind that a declaration of this form is given
abbrev pub Fits : Form → Entry → Type 0
Fits (definition s) (underlying t) = Unit {0}
Fits (definition s) x = ⊥
Fits (method receiver f) (signed g) = Unit {0}
Fits (method receiver f) x = ⊥
Fits f (objects xs) = Unit {0}
Fits f x = ⊥

-- the scopes with what an entry says of the declaration of this form
abbrev pub with_taken : Tables → Grown → Form → Entry → Scopes → Scopes
with_taken t g f (objects xs) c = record c { declared = with_objects t.names.now g.number xs 0 (names_of f) c.declared }
with_taken t g (definition s) (underlying x) c =
    with_type c (is_of (value_at t.names.now s.name.text) g.number) s.name.text x
    (shown_of (entries_of g) (declarations_of t.declarations.now) c.path t.namesakes s.name.text (items_at t.methods.now s.name.text))
with_taken t g (method receiver f) (signed x) c = with_shown (entries_of g) t.namesakes (base (declarations_of t.declarations.now) receiver) f.name.text c
with_taken t g f x c = c
