-- What an environment keeps, and the look-ups that it gives.
-- Public source: Go specification, "Blocks", "Declarations and scope" and "Iota"; that a name and a method may be known
-- before its object or signature is had is own.
use Rattle.std.specs.Prelude.{ℕ, Bool, false, ◌||◌, if◌then◌else◌, nat_eq, List, [], ◌∷◌, ◌++◌, Option, None, Some, is_some}
use Rattle.std.specs.BTreeMap.{insert_entry}
use Rattle.std.specs.Map.{lookup}
use Rattle.std.specs.Option.{option_or}
use Rattle.std.specs.Ordering.{nat_cmp}
use Rattle.std.specs.Str.{bytes_eq}
use Rattle.go_syntax.specs.go_base.Keys.{first_with}
use Rattle.go_model.specs.declared.types.names.Sel.{Sel}
use Rattle.go_model.specs.declared.types.names.TypeName.{TypeName}
use Rattle.go_model.specs.declared.types.package.Defined.{Defined}
use Rattle.go_model.specs.declared.types.package.Entity.{Entity}
use Rattle.go_model.specs.declared.types.package.MethodOf.{MethodOf}
use Rattle.go_model.specs.declared.types.package.Object.{Object}
use Rattle.go_model.specs.types.Tables.{Table}
use Rattle.go_model.specs.types.Terms.{same_sel}
use Rattle.go_model.specs.types.Underlying.{methods_of_entry}
use Rattle.go_model.specs.worlds.Worlds.{Packages, object_in, path_of, table_of}
use Rattle.go_rules.specs.Environments.{Env}
use Rattle.go_rules.specs.Names.{Named, items_at, value_at, with_value}
use Rattle.go_rules.specs.Universe.{predeclared}
use Rattle.go_rules.specs.declared.predeclared.Predeclared.{Predeclared}
use Rattle.go_rules.specs.declared.seen.Seen.{Seen}
use Rattle.go_rules.specs.declared.seen.Seen.TheVariants as seen

pub record Scopes : Type 0 where
  -- the packages that imports are of
  pub world : Packages
  -- the path of the package that is typed, the bits of int, uint and uintptr, and whether in a client of the profile
  pub path : List ℕ
  pub bits : ℕ
  pub profile : Bool
  -- the names of the scopes that are open inside of the package's, the innermost first
  pub opened : List (Named Seen)
  -- the paths that each file imports under a name, and the file in turn
  pub imports : List (ℕ × Named (List ℕ))
  pub file : ℕ
  -- the names that the package is known to declare, and those whose meanings are had
  pub announced : Named (Unit {0})
  pub declared : Named Seen
  -- the defined types of the package that are had, and by the name of a type the selectors of its methods that are known
  pub defined : Named Defined
  pub awaited : Named (List Sel)
  -- the place of a constant's spec in its group, where `iota` has a value
  pub iota : Option ℕ

-- ---- what a name means

-- the meaning in the innermost of these scopes that has the name
abbrev pub innermost : List (Named Seen) → List ℕ → Option Seen
innermost [] name = None
innermost (scope ∷ outer) name = option_or (value_at scope name) (innermost outer name)

-- what a file imports, where it is known to import anything
abbrev pub imports_in : Option (Named (List ℕ)) → Named (List ℕ)
imports_in None = []
imports_in (Some names) = names

-- the imports of a file
abbrev pub imports_of : Scopes → ℕ → Named (List ℕ)
imports_of s file = imports_in (lookup (nat_eq file) s.imports)

-- the package with this path
abbrev pub as_import : Option (List ℕ) → Option Seen
as_import None = None
as_import (Some path) = Some (seen.Import path)

-- what the universe means
abbrev pub of_universe : Option Predeclared → Option Seen
of_universe None = None
of_universe (Some p) = Some (seen.Universe p)

-- the meaning in the package's scope; nothing where the package declares the name and its object isn't had; else the
-- universe's meaning
abbrev pub outermost : Scopes → List ℕ → Option Seen
outermost s name =
    option_or (value_at s.declared name)
    (if is_some (value_at s.announced name) then None else of_universe (predeclared name))

-- the meaning in the innermost opened scope that has the name, else the import of the file in turn, else the package's or
-- universe's
abbrev pub meaning_of : Scopes → List ℕ → Option Seen
meaning_of s name = option_or (innermost s.opened name) (option_or (as_import (value_at (imports_of s s.file) name)) (outermost s name))

-- ---- objects and types

abbrev pub entity_of : Option Object → Option Entity
entity_of None = None
entity_of (Some o) = Some o.entity

-- the object of an imported package, by its path
abbrev pub object_of : Scopes → List ℕ → List ℕ → Option Entity
object_of s path name = entity_of (object_in (first_with path_of s.world.packages path) name)

-- the defined types of the package that are had, and those of the imports
abbrev pub types_of : Scopes → Table
types_of s n = if bytes_eq s.path n.path then value_at s.defined n.name else table_of s.world.packages n

-- one of the methods has the selector
abbrev pub is_had : Sel → List MethodOf → Bool
is_had s [] = false
is_had s (m ∷ ms) = same_sel m.sel s || is_had s ms

-- those of the selectors that no method has
abbrev pub lacking : List Sel → List MethodOf → List Sel
lacking [] ms = []
lacking (s ∷ ss) ms = if is_had s ms then lacking ss ms else s ∷ lacking ss ms

-- the selectors of a type's methods that are known and whose signatures aren't had
abbrev pub missing_of : Scopes → TypeName → List Sel
missing_of s n = if bytes_eq s.path n.path then lacking (items_at s.awaited n.name) (methods_of_entry (value_at s.defined n.name)) else []

-- the environment that expressions are typed in
abbrev pub env_of : Scopes → Env
env_of s = record {
  meaning = meaning_of s;
  object = object_of s;
  table = types_of s;
  missing = missing_of s;
  path = s.path;
  bits = s.bits;
  profile = s.profile;
  iota = s.iota;
}

-- ---- what changes

-- the package's scope alone, of which nothing is known
abbrev pub new_scopes : Packages → List ℕ → ℕ → Bool → Scopes
new_scopes world path bits profile = record {
  world = world;
  path = path;
  bits = bits;
  profile = profile;
  opened = [];
  imports = [];
  file = 0;
  announced = [];
  declared = [];
  defined = [];
  awaited = [];
  iota = None;
}

-- the file imports the path under the name
abbrev pub with_import : Scopes → ℕ → List ℕ → List ℕ → Scopes
with_import s file name path = record s { imports = insert_entry nat_cmp s.imports file (with_value (imports_of s file) name path) }

-- the file has an import of the name
abbrev pub is_imported : Scopes → ℕ → List ℕ → Bool
is_imported s file name = is_some (value_at (imports_of s file) name)

-- the innermost of these scopes, else the package's
abbrev pub scope_in : Scopes → List (Named Seen) → Named Seen
scope_in s [] = s.declared
scope_in s (scope ∷ outer) = scope

-- the innermost scope has the name
abbrev pub is_declared : Scopes → List ℕ → Bool
is_declared s name = is_some (value_at (scope_in s s.opened) name)

-- the name has the meaning in the innermost of these scopes, else in the package's
abbrev pub declared_in : Scopes → List (Named Seen) → List ℕ → Seen → Scopes
declared_in s [] name m = record s { declared = with_value s.declared name m }
declared_in s (scope ∷ outer) name m = record s { opened = with_value scope name m ∷ outer }

-- the name has the meaning in the innermost scope
abbrev pub with_meaning : Scopes → List ℕ → Seen → Scopes
with_meaning s name m = declared_in s s.opened name m

-- the package is known to declare the name
abbrev pub with_announced : Scopes → List ℕ → Scopes
with_announced s name = record s { announced = with_value s.announced name tt }

-- the defined type is had, in place of one of its name
abbrev pub with_defined : Scopes → Defined → Scopes
with_defined s d = record s { defined = with_value s.defined d.name d }

-- the type of that name with one more method, where it is had
abbrev pub added_to : Named Defined → List ℕ → MethodOf → Option Defined → Named Defined
added_to types name m None = types
added_to types name m (Some d) = with_value types name (record d { methods = d.methods ++ m ∷ [] })

abbrev pub with_method : Scopes → List ℕ → MethodOf → Scopes
with_method s name m = record s { defined = added_to s.defined name m (value_at s.defined name) }

-- the package's type of that name is known to have a method with the selector
abbrev pub with_awaited : Scopes → List ℕ → Sel → Scopes
with_awaited s name sel = record s { awaited = with_value s.awaited name (items_at s.awaited name ++ sel ∷ []) }
