-- What scopes keep while the declarations of a package are settled one by one, and how an entry more changes it.
-- Public source: Go specification, "Declarations and scope" and "Method declarations". Own: that a type shows the methods of a
-- selector once all of them are had, of which there are several only where a package is refused.
use Rattle.std.specs.Prelude.{◌≡◌, ℕ, if◌then◌else◌, nat_eq, List, [], ◌++◌, map, Option, None, Some, is_some, slice_get}
use Rattle.std.specs.Option.{option_or}
use Rattle.go_model.specs.declared.types.names.Sel.{Sel}
use Rattle.go_model.specs.declared.types.package.Defined.{Defined}
use Rattle.go_model.specs.declared.types.package.Entity.{Entity}
use Rattle.go_model.specs.declared.types.package.MethodOf.{MethodOf}
use Rattle.go_model.specs.declared.types.term.Term.{Term}
use Rattle.go_rules.specs.Environments.{is_among}
use Rattle.go_rules.specs.Growth.{methods_named}
use Rattle.go_rules.specs.Names.{Named, items_at, value_at, with_value}
use Rattle.go_rules.specs.Scopes.{imports_of, Scopes}
use Rattle.go_rules.specs.declared.seen.Seen.{Seen}
use Rattle.go_typings.specs.Declarations.{declared, declarations, Declared, Declaration}
use Rattle.go_typings.specs.PackageEnvironments.{Entries, Entry, as_object, had, import_of, missing, own_defined, own_entity, path_in}
use Rattle.go_typings.specs.Receivers.{DeclaredMethod, methods}
use Rattle.go_typings.specs.Sources.{PackageSource, Setting}

abbrev pub selector_of : DeclaredMethod → Sel
selector_of m = m.sel

-- the selectors of the methods of a type that a selector can find, in the order of their declarations
abbrev pub selectors : PackageSource → List ℕ → List Sel
selectors u type = map selector_of (methods u type)

-- the methods with the selector that are had, where none with it is missing
abbrev pub shown : Entries → List DeclaredMethod → Sel → List MethodOf
shown a ms s = if is_among s (missing a ms) then [] else methods_named s (had a ms)

-- the type has this underneath, and by each selector the methods that are shown
pub record ShowsType (a : Entries) (ms : List DeclaredMethod) (underneath : Term) (e : Defined) : Type 0 where
  pub underlying : e.underlying ≡ underneath
  pub methods : (s : Sel) → methods_named s e.methods ≡ shown a ms s

abbrev pub Shows : Entries → List DeclaredMethod → Option Defined → Option Defined → Type 0
Shows a ms None None = Unit {0}
Shows a ms (Some d) (Some e) = ShowsType a ms d.underlying e
Shows a ms d e = ⊥

-- the scopes keep what is had of the package under these entries, and know each method that its types have
pub record Keeps (s : Setting) (u : PackageSource) (a : Entries) (c : Scopes) : Type 0 where
  pub world : c.world ≡ s.world
  pub path : c.path ≡ u.path
  pub bits : c.bits ≡ s.bits
  pub profile : c.profile ≡ s.profile
  pub opened : c.opened ≡ []
  pub imports : (file : ℕ) (name : List ℕ) → value_at (imports_of c file) name ≡ path_in (import_of u file name)
  pub announced : (name : List ℕ) → is_some (value_at c.announced name) ≡ is_some (declared (declarations u) name)
  pub objects : (name : List ℕ) → value_at c.declared name ≡ as_object (own_entity u a name)
  pub awaited : (type : List ℕ) → items_at c.awaited type ≡ selectors u type
  pub types : (type : List ℕ) → Shows a (methods u type) (own_defined u a type) (value_at c.defined type)

-- ---- an entry more

abbrev pub with_entry : Entries → ℕ → Entry → Entries
with_entry a n x m = if nat_eq m n then Some x else a m

abbrev pub object_here : ℕ → List Entity → Option Declared → Option Seen
object_here n xs None = None
object_here n xs (Some d) = if nat_eq d.number n then as_object (slice_get xs d.place) else None

-- what the name denotes that the declaration of this number declares first, where its objects are these
abbrev pub first_object : List Declaration → ℕ → List Entity → List ℕ → Option Seen
first_object ds n xs name = object_here n xs (declared ds name)

-- the names mean these objects, and any other what it meant
abbrev pub HasObjects : List Declaration → ℕ → List Entity → Named Seen → Named Seen → Type 0
HasObjects ds n xs old new = (name : List ℕ) → value_at new name ≡ option_or (first_object ds n xs name) (value_at old name)

-- the declaration of this number is the first of the name
abbrev pub IsFirstOf : List Declaration → ℕ → List ℕ → Type 0
IsFirstOf ds n name = (w : Declared) × (declared ds name ≡ Some w) × (w.number ≡ n)

-- the type of this name, where it is had, with methods more
abbrev pub extended : Named Defined → List ℕ → List MethodOf → Option Defined → Named Defined
extended types name ms None = types
extended types name ms (Some e) = with_value types name (record e { methods = e.methods ++ ms })

abbrev pub with_methods : Scopes → List ℕ → List MethodOf → Scopes
with_methods c name ms = record c { defined = extended c.defined name ms (value_at c.defined name) }

-- the scopes are the same but for the file in turn and the value of `iota`
abbrev pub IsMoved : Scopes → Scopes → Type 0
IsMoved c d = d ≡ record c { file = d.file; iota = d.iota }
