-- What the types of a package are asked before a world takes it.
use Rattle.std.specs.Prelude.{◌≡◌, ◌≢◌, ℕ, List, [], ◌∷◌, Some, None, map, true}
use Rattle.go_base.specs.Keys.{first_with, placed}
use Rattle.go_base.specs.Lists.{Ascending, Each}
use Rattle.go_model.specs.declared.types.names.Sel.{Sel}
use Rattle.go_model.specs.declared.types.names.TypeName.{TypeName}
use Rattle.go_model.specs.declared.types.package.Defined.{Defined}
use Rattle.go_model.specs.declared.types.package.MethodOf.{MethodOf}
use Rattle.go_model.specs.declared.types.package.Object.{Object}
use Rattle.go_model.specs.declared.types.package.Package.{Package}
use Rattle.go_model.specs.declared.types.term.Field.{Field, out-Field}
use Rattle.go_model.specs.declared.types.term.Method.{Method, out-Method}
use Rattle.go_model.specs.declared.types.term.Signature.{Signature}
use Rattle.go_model.specs.declared.types.term.Term.{Term, Term-F, out-Term}
use Rattle.go_model.specs.types.Members.{AreOrdered, IsWellFormed, Members, field_sel, members, signature_members}
use Rattle.go_model.specs.types.Tables.{Table}
use Rattle.go_model.specs.types.TypeNames.{names, signature_names}
use Rattle.go_model.specs.types.TypeSelectors.{selectors, signature_selectors}
use Rattle.go_model.specs.types.Underlying.{entry, fields_of}
use Rattle.go_model.specs.worlds.PackageTypes.{object_members, object_names, object_selectors}
use Rattle.go_model.specs.worlds.Worlds.{IsOwned, Packages, bars_methods, declared_sel, name_of, object_name, path_of, table_of, type_object}

-- the defined types of the world with the package
abbrev pub joint : Packages → Package → Table
joint w p = table_of (placed path_of p w.packages)

-- the paths of which unexported selectors may be
abbrev pub joint_paths : Packages → Package → List (List ℕ)
joint_paths w p = p.path ∷ map path_of w.packages

-- the name has an entry
abbrev pub IsThere : Packages → Package → TypeName → Type 0
IsThere w p n = entry (joint w p) n ≢ None

-- these names, selectors, and struct and interface types may stand in the package
pub record Kept (w : Packages) (p : Package) (ns : List TypeName) (ss : List Sel) (ms : List Members) : Type 0 where
  pub there : Each (IsThere w p) ns
  pub owned : Each (IsOwned (joint_paths w p)) ss
  pub formed : Each IsWellFormed ms

abbrev pub TermKept : Packages → Package → Term → Type 0
TermKept w p t = Kept w p (names t) (selectors t) (members t)

abbrev pub SignatureKept : Packages → Package → Signature → Type 0
SignatureKept w p g = Kept w p (signature_names g) (signature_selectors g) (signature_members g)

pub record FieldKept (w : Packages) (p : Package) (f : Field) : Type 0 where
  pub sel : IsOwned (joint_paths w p) (out-Field f).sel
  pub term : TermKept w p (out-Field f).term

pub record MethodKept (w : Packages) (p : Package) (m : Method) : Type 0 where
  pub sel : IsOwned (joint_paths w p) (out-Method m).sel
  pub signature : SignatureKept w p (out-Method m).signature

pub record DeclaredKept (w : Packages) (p : Package) (m : MethodOf) : Type 0 where
  pub sel : IsOwned (joint_paths w p) m.sel
  pub signature : SignatureKept w p m.signature

abbrev pub ObjectKept : Packages → Package → Object → Type 0
ObjectKept w p o = Kept w p (object_names o) (object_selectors o) (object_members o)

-- the types of a defined type
pub record TypesKept (w : Packages) (p : Package) (d : Defined) : Type 0 where
  pub underlying : TermKept w p d.underlying
  pub methods : Each (DeclaredKept w p) d.methods

-- a defined type by its form
pub record IsShaped (d : Defined) : Type 0 where
  pub structured : (n : TypeName) → out-Term d.underlying ≢ Term-F.Named n
  pub methods : AreOrdered (map declared_sel d.methods)
  pub bare : bars_methods (out-Term d.underlying) ≡ true → d.methods ≡ []
  pub apart : Each (λ m. Each (λ f. (field_sel f).name ≢ m.sel.name) (fields_of (out-Term d.underlying))) d.methods

-- a defined type of the package, with its object
pub record DefinedKept (w : Packages) (p : Package) (d : Defined) : Type 0 where
  pub types : TypesKept w p d
  pub shape : IsShaped d
  pub declared : first_with object_name p.objects d.name ≡ Some (type_object p.path d.name)

-- all of a package but its path
pub record IsAdmitted (w : Packages) (p : Package) : Type 0 where
  pub order : Ascending (map object_name p.objects)
  pub types_order : Ascending (map name_of p.defined)
  pub objects : Each (ObjectKept w p) p.objects
  pub defined : Each (DefinedKept w p) p.defined
