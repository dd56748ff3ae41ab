-- What a declaration is typed in, where an assignment tells what is had of the package.
-- Public source: Go specification, "Declarations and scope", "Iota" and "Method declarations"; that a type's name and its
-- methods' names are known before what they stand for is own.
use Rattle.std.specs.Prelude.{ℕ, if◌then◌else◌, List, [], ◌∷◌, Option, None, Some, slice_get}
use Rattle.std.specs.Option.{option_or}
use Rattle.std.specs.Str.{bytes_eq}
use Rattle.go_references.specs.go_base.Gathered.{gather}
use Rattle.go_references.specs.go_base.Keys.{first_with}
use Rattle.go_rules.specs.go_model.declared.types.names.Sel.{Sel}
use Rattle.go_rules.specs.go_model.declared.types.names.TypeName.{TypeName}
use Rattle.go_rules.specs.go_model.declared.types.package.Defined.{Defined}
use Rattle.go_rules.specs.go_model.declared.types.package.Entity.{Entity}
use Rattle.go_rules.specs.go_model.declared.types.package.Entity.TheVariants as entity
use Rattle.go_rules.specs.go_model.declared.types.package.MethodOf.{MethodOf}
use Rattle.go_rules.specs.go_model.declared.types.term.Signature.{Signature}
use Rattle.go_rules.specs.go_model.declared.types.term.Term.{Term, Term-F, roll-Term}
use Rattle.go_rules.specs.go_model.types.Tables.{Table}
use Rattle.go_rules.specs.go_model.worlds.Worlds.{object_in, path_of, table_of}
use Rattle.go_rules.specs.Environments.{Env}
use Rattle.go_rules.specs.Scopes.{as_import, entity_of, of_universe}
use Rattle.go_rules.specs.Universe.{predeclared}
use Rattle.go_rules.specs.declared.seen.Seen.{Seen}
use Rattle.go_rules.specs.declared.seen.Seen.TheVariants as seen
use Rattle.go_typings.specs.Assignments.{Assignment}
use Rattle.go_typings.specs.Declarations.{Form, constants, definition, Declaration, Declared, declared, declarations, is_init}
use Rattle.go_typings.specs.Receivers.{DeclaredMethod, methods}
use Rattle.go_typings.specs.Sources.{Import, PackageSource, Setting, import_name, imports_of}

-- what a declaration is given
pub data Entry : Type 0 where
  -- what the names of constants and variables, of an alias or of a function denote, in order
  objects : List Entity → Entry
  -- the type underneath a defined type
  underlying : Term → Entry
  -- the signature of a method
  signed : Signature → Entry

abbrev pub Entries : Type 0
Entries = Assignment Entry

abbrev pub object_of : Option Entry → ℕ → Option Entity
object_of (Some (objects xs)) place = slice_get xs place
object_of x place = None

abbrev pub underlying_of : Option Entry → Option Term
underlying_of (Some (underlying t)) = Some t
underlying_of x = None

abbrev pub signature_of : Option Entry → Option Signature
signature_of (Some (signed g)) = Some g
signature_of x = None

-- ---- names

-- the defined type of this name in the package of this path
abbrev pub own_type : List ℕ → List ℕ → Term
own_type path name = roll-Term (Term-F.Named (record { path = path; name = name }))

-- what the name denotes that is declared here: a defined type's name denotes the type also before more is had of it
abbrev pub entity_by : List ℕ → Entries → ℕ → ℕ → Form → Option Entity
entity_by path a number place (definition s) = Some (entity.TypeOf (own_type path s.name.text))
entity_by path a number place f = object_of (a number) place

-- what a name of the package denotes
abbrev pub entity_at : List ℕ → Entries → Option Declared → Option Entity
entity_at path a None = None
entity_at path a (Some d) = entity_by path a d.number d.place d.form

abbrev pub own_entity : PackageSource → Entries → List ℕ → Option Entity
own_entity u a name = entity_at u.path a (declared (declarations u) name)

abbrev pub as_object : Option Entity → Option Seen
as_object None = None
as_object (Some x) = Some (seen.Object x)

-- a name that the package declares means what it denotes there, or nothing; any other one what the universe has
abbrev pub meaning_at : List ℕ → Entries → List ℕ → Option Declared → Option Seen
meaning_at path a name None = of_universe (predeclared name)
meaning_at path a name (Some d) = as_object (entity_by path a d.number d.place d.form)

-- the path under which the import is had: one that isn't found has the empty one, which is no package's, so that nothing is had of it
abbrev pub had_path : Import → List ℕ
had_path i = if i.is_found then i.path else []

abbrev pub path_in : Option Import → Option (List ℕ)
path_in None = None
path_in (Some i) = Some (had_path i)

-- the import that a name means in a file: `init` means none
abbrev pub import_of : PackageSource → ℕ → List ℕ → Option Import
import_of u file name = if is_init name then None else first_with import_name (imports_of u file) name

-- what a name means in a file: the import of this name, else what it means in the package, else in the universe
abbrev pub meaning_of : PackageSource → Entries → ℕ → List ℕ → Option Seen
meaning_of u a file name = option_or (as_import (path_in (import_of u file name))) (meaning_at u.path a name (declared (declarations u) name))

-- ---- defined types

-- the method, where its signature is had
abbrev pub had_of : DeclaredMethod → Option Signature → List MethodOf
had_of m None = []
had_of m (Some g) = record { sel = m.sel; pointer = m.pointer; signature = g } ∷ []

-- the selector of the method, where its signature isn't had
abbrev pub missing_of : DeclaredMethod → Option Signature → List Sel
missing_of m None = m.sel ∷ []
missing_of m (Some g) = []

abbrev pub had : Entries → List DeclaredMethod → List MethodOf
had a ms = gather (λ m. had_of m (signature_of (a m.number))) ms

abbrev pub missing : Entries → List DeclaredMethod → List Sel
missing a ms = gather (λ m. missing_of m (signature_of (a m.number))) ms

abbrev pub defined_with : List ℕ → List MethodOf → Option Term → Option Defined
defined_with name ms None = None
defined_with name ms (Some t) = Some (record { name = name; underlying = t; methods = ms })

-- a defined type of the package, with the methods that are had, where the type underneath it is
abbrev pub defined_by : PackageSource → Entries → List ℕ → ℕ → Form → Option Defined
defined_by u a name number (definition s) = defined_with name (had a (methods u name)) (underlying_of (a number))
defined_by u a name number f = None

abbrev pub defined_at : PackageSource → Entries → List ℕ → Option Declared → Option Defined
defined_at u a name None = None
defined_at u a name (Some d) = defined_by u a name d.number d.form

abbrev pub own_defined : PackageSource → Entries → List ℕ → Option Defined
own_defined u a name = defined_at u a name (declared (declarations u) name)

-- the defined types of the package that are had, and those of the imports
abbrev pub types_of : Setting → PackageSource → Entries → Table
types_of s u a n = if bytes_eq u.path n.path then own_defined u a n.name else table_of s.world.packages n

-- the methods of a defined type of the package whose signatures aren't had
abbrev pub missing_in : PackageSource → Entries → TypeName → List Sel
missing_in u a n = if bytes_eq u.path n.path then missing a (methods u n.name) else []

-- ---- the environment

-- `iota` has a value in constants alone: the place of their spec
abbrev pub iota_of : Form → Option ℕ
iota_of (constants spec place) = Some place
iota_of f = None

-- what a declaration is typed in
abbrev pub environment : Setting → PackageSource → Entries → Declaration → Env
environment s u a d = record {
  meaning = meaning_of u a d.file;
  object = λ path name. entity_of (object_in (first_with path_of s.world.packages path) name);
  table = types_of s u a;
  missing = missing_in u a;
  path = u.path;
  bits = s.bits;
  profile = s.profile;
  iota = iota_of d.form;
}
