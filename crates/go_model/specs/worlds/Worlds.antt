-- Worlds: typed packages together.
-- Public source: Go specification, "Packages" and "Declarations and scope".
use Rattle.std.specs.Prelude.{◌≡◌, ◌≢◌, ◌⊎◌, ℕ, List, [], map, Bool, true, false, Option, Some, None, if◌then◌else◌}
use Rattle.go_base.specs.Lists.{Has, Each, Ascending}
use Rattle.go_base.specs.Gathered.{gather}
use Rattle.go_model.specs.types.Tables.{Table}
use Rattle.go_model.specs.declared.types.names.TypeName.{TypeName}
use Rattle.go_model.specs.declared.types.names.Sel.{Sel}
use Rattle.go_model.specs.declared.types.package.Package.{Package}
use Rattle.go_model.specs.declared.types.package.Object.{Object}
use Rattle.go_model.specs.declared.types.package.Defined.{Defined}
use Rattle.go_model.specs.declared.types.package.Entity.{Entity}
use Rattle.go_model.specs.declared.types.package.Entity.TheVariants as entity
use Rattle.go_model.specs.declared.types.package.ConstTerm.TheVariants as constant
use Rattle.go_model.specs.declared.types.package.MethodOf.{MethodOf}
use Rattle.go_model.specs.declared.types.term.Term.{Term, Term-F, out-Term, roll-Term}
use Rattle.go_model.specs.declared.types.term.Field.{Field, out-Field}
use Rattle.go_model.specs.declared.types.term.Signature.{Signature}
use Rattle.go_base.specs.Keys.{first_with, placed}
use Rattle.go_model.specs.worlds.PackageTypes.{package_selectors, package_members}
use Rattle.go_model.specs.types.Members.{AreOrdered, IsWellFormed}
use Rattle.go_model.specs.types.Terms.{Layer, client_path}
use Rattle.go_model.specs.types.TypeNames.{names, signature_names}
use Rattle.go_model.specs.types.Underlying.{entry, fields_of}

-- packages, and the paths of those that are public
pub record Packages : Type 0 where
  pub packages : List Package
  pub publics : List (List ℕ)

abbrev pub path_of : Package → List ℕ
path_of p = p.path

abbrev pub name_of : Defined → List ℕ
name_of d = d.name

abbrev pub object_name : Object → List ℕ
object_name o = o.name

-- an object of the package that was found
abbrev pub object_in : Option Package → List ℕ → Option Object
object_in None name = None
object_in (Some p) name = first_with object_name p.objects name

-- a defined type of the package that was found
abbrev pub defined_in : Option Package → List ℕ → Option Defined
defined_in None name = None
defined_in (Some p) name = first_with name_of p.defined name

-- the defined types of packages
abbrev pub table_of : List Package → Table
table_of ps n = defined_in (first_with path_of ps n.path) n.name

-- the packages with one more
abbrev pub with_package : Packages → Package → Bool → Packages
with_package w p public = record { packages = placed path_of p w.packages; publics = if public then placed (λ t. t) p.path w.publics else w.publics }

-- each name in the type has an entry, `error` too
abbrev pub Resolves : Table → Term → Type 0
Resolves T t = (n : TypeName) → Has (names t) n → entry T n ≢ None

abbrev pub SignatureResolves : Table → Signature → Type 0
SignatureResolves T g = (n : TypeName) → Has (signature_names g) n → entry T n ≢ None

abbrev pub EntityResolves : Table → Entity → Type 0
EntityResolves T (entity.Const (constant.OfTerm t) v) = Resolves T t
EntityResolves T (entity.Const (constant.OfKind k) v) = Unit {0}
EntityResolves T (entity.Var t) = Resolves T t
EntityResolves T (entity.Function g) = SignatureResolves T g
EntityResolves T (entity.TypeOf t) = Resolves T t

-- no method is declared for a pointer and none for an interface
abbrev pub bars_methods : Layer → Bool
bars_methods (Term-F.Pointer base) = true
bars_methods (Term-F.Interface ms) = true
bars_methods l = false

abbrev pub declared_sel : MethodOf → Sel
declared_sel m = m.sel

-- a defined type as a world holds it
pub record IsDefined (T : Table) (d : Defined) : Type 0 where
  -- each name in its types has an entry
  pub resolved : Resolves T d.underlying
  pub signatures : Each (λ m. SignatureResolves T m.signature) d.methods
  -- what is underneath is no name
  pub structured : (n : TypeName) → out-Term d.underlying ≢ Term-F.Named n
  -- its methods are in order, each once, and none is named `_`
  pub methods : AreOrdered (map declared_sel d.methods)
  -- with a pointer or an interface underneath it has no method
  pub bare : bars_methods (out-Term d.underlying) ≡ true → d.methods ≡ []
  -- no method has the name of a field of the struct underneath
  pub apart : (m : MethodOf) (f : Field) → Has d.methods m → Has (fields_of (out-Term d.underlying)) f → (out-Field f).sel.name ≢ m.sel.name

-- the object that a type declaration gives a defined type
abbrev pub type_object : List ℕ → List ℕ → Object
type_object path name = record { name = name; entity = entity.TypeOf (roll-Term (Term-F.Named (record { path = path; name = name }))) }

-- a package as a world holds it
pub record IsPackage (T : Table) (p : Package) : Type 0 where
  -- its path isn't empty, as the predeclared `error` has it, and isn't a client's
  pub pathed : p.path ≢ []
  pub foreign : p.path ≢ client_path
  -- its objects and its defined types are in order of their names, each name once
  pub objects : Ascending (map object_name p.objects)
  pub defined : Ascending (map name_of p.defined)
  -- each name in the types of its objects has an entry
  pub entities : Each (λ o. EntityResolves T o.entity) p.objects
  pub types : Each (IsDefined T) p.defined
  -- each defined type has its object, exported or not
  pub declared : Each (λ d. first_with object_name p.objects d.name ≡ Some (type_object p.path d.name)) p.defined
  -- in each of its struct types the names of fields are distinct, and in each interface type methods are in order
  pub formed : Each IsWellFormed (package_members p)

-- a selector is exported, or of a package with one of these paths
abbrev pub IsOwned : List (List ℕ) → Sel → Type 0
IsOwned paths s = (s.«package» ≡ []) ⊎ Has paths s.«package»

-- what every world keeps
pub record IsWorld (w : Packages) : Type 0 where
  -- its packages are in order of their paths, each path once
  pub ordered : Ascending (map path_of w.packages)
  pub packaged : Each (IsPackage (table_of w.packages)) w.packages
  -- each selector is exported or of a package of the world
  pub owned : Each (IsOwned (map path_of w.packages)) (gather package_selectors w.packages)
  -- the public paths are in order, each once, and are paths of the world
  pub public_order : Ascending w.publics
  pub public_paths : Each (Has (map path_of w.packages)) w.publics
