-- Types in which all names of types and all selectors are as is said, and all struct and interface types are well formed.
use Rattle.std.specs.Prelude.{◌≡◌, ◌≢◌, ℕ, List, [], None, Some, codes, map}
use Rattle.go_base.specs.Keys.{first_with}
use Rattle.go_base.specs.Lists.{Each}
use Rattle.go_model.specs.declared.types.names.Sel.{Sel}
use Rattle.go_model.specs.declared.types.names.TypeName.{TypeName}
use Rattle.go_model.specs.declared.types.package.ConstTerm.{ConstTerm}
use Rattle.go_model.specs.declared.types.package.ConstTerm.TheVariants as constant
use Rattle.go_model.specs.declared.types.package.Defined.{Defined}
use Rattle.go_model.specs.declared.types.package.Entity.{Entity}
use Rattle.go_model.specs.declared.types.package.Entity.TheVariants as entity
use Rattle.go_model.specs.declared.types.package.MethodOf.{MethodOf}
use Rattle.go_model.specs.declared.types.package.Package.{Package}
use Rattle.go_model.specs.declared.types.term.Field.{Field, out-Field}
use Rattle.go_model.specs.declared.types.term.Method.{Method, out-Method}
use Rattle.go_model.specs.declared.types.term.Signature.{Signature}
use Rattle.go_model.specs.declared.types.term.Term.{Term, Term-F}
use Rattle.go_model.specs.types.Members.{AreDistinct, AreOrdered, IsWellFormed, Members, field_sel, members, signature_members}
use Rattle.go_model.specs.types.MethodSets.{method_sel}
use Rattle.go_model.specs.types.Tables.{Table}
use Rattle.go_model.specs.types.Terms.{Layer}
use Rattle.go_model.specs.types.TypeNames.{names, signature_names}
use Rattle.go_model.specs.types.TypeSelectors.{selectors, signature_selectors}
use Rattle.go_model.specs.types.Underlying.{entry}
use Rattle.go_model.specs.worlds.Worlds.{path_of}
use Rattle.go_rules.specs.Environments.{Env, selector_of}
use Rattle.go_rules.specs.Regions.{error_name}
use Rattle.go_rules.specs.declared.operand.Operand.{Operand}
use Rattle.go_rules.specs.declared.operand.Shape.{Shape}
use Rattle.go_rules.specs.declared.operand.Shape.TheVariants as shape
use Rattle.go_rules.specs.declared.seen.Seen.{Seen}
use Rattle.go_rules.specs.declared.seen.Seen.TheVariants as seen
use Rattle.go_syntax.specs.declared.declaration.TypeSpec.{TypeSpec}
use Rattle.go_typings.specs.Declarations.{Declared, declarations, declared, definition}
use Rattle.go_typings.specs.PackageEnvironments.{Entries, Entry, objects, underlying, signed}
use Rattle.go_typings.specs.Receivers.{selector}
use Rattle.go_typings.specs.Sources.{PackageSource, Setting}

-- the name has an entry
abbrev pub HasEntry : Table → TypeName → Type 0
HasEntry T n = entry T n ≢ None

-- the selector of the method of `error`
abbrev pub error_sel : Sel
error_sel = record { name = codes "Error"; «package» = [] }

module _ (N : TypeName → Type 0) (S : Sel → Type 0) where
  -- these names, selectors, and struct and interface types may stand in a type
  pub record Kept (ns : List TypeName) (ss : List Sel) (ms : List Members) : Type 0 where
    pub named : Each N ns
    pub owned : Each S ss
    pub formed : Each IsWellFormed ms

  abbrev pub TermKept : Term → Type 0
  TermKept t = Kept (names t) (selectors t) (members t)

  abbrev pub SignatureKept : Signature → Type 0
  SignatureKept g = Kept (signature_names g) (signature_selectors g) (signature_members g)

  pub record FieldKept (f : Field) : Type 0 where
    pub sel : S (out-Field f).sel
    pub term : TermKept (out-Field f).term

  pub record MethodKept (m : Method) : Type 0 where
    pub sel : S (out-Method m).sel
    pub signature : SignatureKept (out-Method m).signature

  -- one level of a type, and the types in it
  abbrev pub LayerKept : Layer → Type 0
  LayerKept (Term-F.Plain b) = Unit {0}
  LayerKept (Term-F.Named n) = N n
  LayerKept (Term-F.Pointer e) = TermKept e
  LayerKept (Term-F.Slice e) = TermKept e
  LayerKept (Term-F.Array n e) = TermKept e
  LayerKept (Term-F.Map k e) = TermKept k × TermKept e
  LayerKept (Term-F.Chan d e) = TermKept e
  LayerKept (Term-F.Func g) = SignatureKept g
  LayerKept (Term-F.Struct fs) = AreDistinct (map field_sel fs) × Each FieldKept fs
  LayerKept (Term-F.Interface ms) = AreOrdered (map method_sel ms) × Each MethodKept ms

  -- ---- what has types

  abbrev pub ConstKept : ConstTerm → Type 0
  ConstKept (constant.OfTerm t) = TermKept t
  ConstKept (constant.OfKind k) = Unit {0}

  abbrev pub EntityKept : Entity → Type 0
  EntityKept (entity.Const c v) = ConstKept c
  EntityKept (entity.Var t) = TermKept t
  EntityKept (entity.Function g) = SignatureKept g
  EntityKept (entity.TypeOf t) = TermKept t

  pub record DeclaredKept (m : MethodOf) : Type 0 where
    pub sel : S m.sel
    pub signature : SignatureKept m.signature

  pub record DefinedKept (d : Defined) : Type 0 where
    pub beneath : TermKept d.underlying
    pub methods : Each DeclaredKept d.methods

  pub record PackageKept (p : Package) : Type 0 where
    pub entities : Each (λ o. EntityKept o.entity) p.objects
    pub types : Each DefinedKept p.defined

  abbrev pub SeenKept : Seen → Type 0
  SeenKept (seen.Local t) = TermKept t
  SeenKept (seen.LocalConst c v) = ConstKept c
  SeenKept (seen.Object x) = EntityKept x
  SeenKept (seen.Import path) = Unit {0}
  SeenKept (seen.Universe p) = Unit {0}

  abbrev pub ShapeKept : Shape → Type 0
  ShapeKept (shape.Of t) = TermKept t
  ShapeKept (shape.Fixed c v) = ConstKept c
  ShapeKept (shape.Many ts) = Each TermKept ts
  ShapeKept s = Unit {0}

  abbrev pub OperandKept : Operand → Type 0
  OperandKept o = ShapeKept o.shape

  abbrev pub EntryKept : Entry → Type 0
  EntryKept (objects xs) = Each EntityKept xs
  EntryKept (underlying t) = TermKept t
  EntryKept (signed g) = SignatureKept g

  abbrev pub EntriesKept : Entries → Type 0
  EntriesKept a = (n : ℕ) (x : Entry) → a n ≡ Some x → EntryKept x

  -- what an environment has is kept so, and the selectors that it makes
  pub record EnvKept (E : Env) : Type 0 where
    pub own : (name : List ℕ) → S (selector_of E name)
    pub error : N error_name
    pub meaning : (name : List ℕ) (m : Seen) → E.meaning name ≡ Some m → SeenKept m
    pub object : (path name : List ℕ) (x : Entity) → E.object path name ≡ Some x → EntityKept x
    pub entry : (n : TypeName) (d : Defined) → entry E.table n ≡ Some d → DefinedKept d

  -- ---- what a package is typed over

  -- the packages of the setting are kept so, and the names of the types and the selectors that the package declares
  pub record SourceKept (s : Setting) (u : PackageSource) : Type 0 where
    pub own : (name : List ℕ) → S (selector u.path name)
    pub exported : S error_sel
    pub error : N error_name
    pub imports : (path : List ℕ) (q : Package) → first_with path_of s.world.packages path ≡ Some q → PackageKept q
    pub types : (name : List ℕ) (w : Declared) (c : TypeSpec) → declared (declarations u) name ≡ Some w → w.form ≡ definition c
        → N (record { path = u.path; name = c.name.text })
