-- Closed regions of an environment: names, names of types and paths of packages, with all that stands in what they give.
-- Own: that an expression depends on what it refers to alone.
use Rattle.std.specs.Prelude.{◌≡◌, ℕ, Bool, true, if◌then◌else◌, List, [], ◌∷◌, ◌++◌, Option, Some, None, codes}
use Rattle.go_syntax.specs.go_base.Lists.{Each, Has, Passes}
use Rattle.go_model.specs.declared.types.names.TypeName.{TypeName}
use Rattle.go_model.specs.declared.types.package.ConstTerm.{ConstTerm}
use Rattle.go_model.specs.declared.types.package.ConstTerm.TheVariants as constant
use Rattle.go_model.specs.declared.types.package.Defined.{Defined}
use Rattle.go_model.specs.declared.types.package.Entity.{Entity}
use Rattle.go_model.specs.declared.types.package.Entity.TheVariants as entity
use Rattle.go_model.specs.declared.types.package.MethodOf.{MethodOf}
use Rattle.go_model.specs.declared.types.term.Signature.{Signature}
use Rattle.go_model.specs.declared.types.term.Term.{Term}
use Rattle.go_model.specs.types.TypeNames.{names, signature_names}
use Rattle.go_model.specs.types.Underlying.{entry}
use Rattle.go_rules.specs.Environments.{Env}
use Rattle.go_rules.specs.Nodes.{ExprLayer, TypeLayer, FieldLayer, ElemLayer, Node, expression, type, Stands}
use Rattle.go_rules.specs.declared.operand.Shape.{Shape}
use Rattle.go_rules.specs.declared.operand.Shape.TheVariants as shape
use Rattle.go_rules.specs.declared.seen.Seen.{Seen}
use Rattle.go_rules.specs.declared.seen.Seen.TheVariants as seen
use Rattle.go_syntax.specs.declared.expression.Expr.{Expr-F, out-Expr}
use Rattle.go_syntax.specs.declared.name.Name.{Name}
use Rattle.go_syntax.specs.declared.name.QualifiedName.{QualifiedName}
use Rattle.go_syntax.specs.declared.types.FieldDecl.{FieldDecl, FieldDecl-F, out-FieldDecl}
use Rattle.go_syntax.specs.declared.types.InterfaceElem.{InterfaceElem, InterfaceElem-F, out-InterfaceElem}
use Rattle.go_syntax.specs.declared.types.«Type».{«Type-F» as Typ-F, «out-Type» as out-Typ}

pub record Region : Type 0 where
  -- names that are looked up
  pub names : List ℕ → Bool
  -- names of defined types
  pub types : TypeName → Bool
  -- the paths of imported packages
  pub packages : List ℕ → Bool

-- ---- what stands in the region

-- each name in the type is of the region
abbrev pub TermIn : Region → Term → Type 0
TermIn R t = Passes R.types (names t)

abbrev pub SignatureIn : Region → Signature → Type 0
SignatureIn R g = Passes R.types (signature_names g)

abbrev pub ConstIn : Region → ConstTerm → Type 0
ConstIn R (constant.OfTerm t) = TermIn R t
ConstIn R (constant.OfKind k) = Unit {0}

abbrev pub EntityIn : Region → Entity → Type 0
EntityIn R (entity.Const c v) = ConstIn R c
EntityIn R (entity.Var t) = TermIn R t
EntityIn R (entity.Function g) = SignatureIn R g
EntityIn R (entity.TypeOf t) = TermIn R t

abbrev pub SeenIn : Region → Seen → Type 0
SeenIn R (seen.Local t) = TermIn R t
SeenIn R (seen.LocalConst c v) = ConstIn R c
SeenIn R (seen.Object x) = EntityIn R x
SeenIn R (seen.Import path) = R.packages path ≡ true
SeenIn R (seen.Universe p) = Unit {0}

abbrev pub ShapeIn : Region → Shape → Type 0
ShapeIn R (shape.Of t) = TermIn R t
ShapeIn R (shape.Fixed c v) = ConstIn R c
ShapeIn R (shape.Many ts) = Each (TermIn R) ts
ShapeIn R s = Unit {0}

-- the name of the predeclared `error`
abbrev pub error_name : TypeName
error_name = record { path = []; name = codes "error" }

-- what the names, types and packages of the region give in the environment stands in the region
pub record IsClosed (E : Env) (R : Region) : Type 0 where
  pub meaning : (name : List ℕ) (m : Seen) → R.names name ≡ true → E.meaning name ≡ Some m → SeenIn R m
  pub object : (path name : List ℕ) (x : Entity) → R.packages path ≡ true → E.object path name ≡ Some x → EntityIn R x
  pub underlying : (n : TypeName) (d : Defined) → R.types n ≡ true → entry E.table n ≡ Some d → TermIn R d.underlying
  pub methods : (n : TypeName) (d : Defined) (m : MethodOf) → R.types n ≡ true → entry E.table n ≡ Some d → Has d.methods m → SignatureIn R m.signature
  pub error : R.types error_name ≡ true

-- the environment that has what stands in the region alone
abbrev pub cut : Region → Env → Env
cut R E = record {
  meaning = λ name. if R.names name then E.meaning name else None;
  object = λ path name. if R.packages path then E.object path name else None;
  table = λ n. if R.types n then E.table n else None;
  missing = E.missing;
  path = E.path;
  bits = E.bits;
  profile = E.profile;
  iota = E.iota;
}

-- ---- the names that a tree refers to

-- the first name of a type's name
abbrev pub front : Option Name → Name → Name
front None n = n
front (Some q) n = q

abbrev pub front_of : QualifiedName → Name
front_of q = front q.qualifier q.name

abbrev pub field_fronts : FieldLayer → List Name
field_fronts (FieldDecl-F.«FieldDecl::Named» ns t tag) = []
field_fronts (FieldDecl-F.«FieldDecl::Embedded» star q tag) = front_of q ∷ []

abbrev pub fields_fronts : List FieldDecl → List Name
fields_fronts [] = []
fields_fronts (d ∷ ds) = field_fronts (out-FieldDecl d) ++ fields_fronts ds

abbrev pub elem_fronts : ElemLayer → List Name
elem_fronts (InterfaceElem-F.Method n g) = []
elem_fronts (InterfaceElem-F.«InterfaceElem::Embedded» q) = front_of q ∷ []

abbrev pub elems_fronts : List InterfaceElem → List Name
elems_fronts [] = []
elems_fronts (x ∷ xs) = elem_fronts (out-InterfaceElem x) ++ elems_fronts xs

-- the names at the level of a type form
abbrev pub type_fronts : TypeLayer → List Name
type_fronts (Typ-F.«Type::Named» q) = front_of q ∷ []
type_fronts (Typ-F.Struct ds) = fields_fronts ds
type_fronts (Typ-F.Interface xs) = elems_fronts xs
type_fronts l = []

-- the name that an expression is
abbrev pub expression_name : ExprLayer → List Name
expression_name (Expr-F.Name n) = n ∷ []
expression_name l = []

-- the names at the level of a tree
abbrev pub node_names : Node → List Name
node_names (expression e) = expression_name (out-Expr e)
node_names (type t) = type_fronts (out-Typ t)
node_names b = []

abbrev pub NameIn : Region → Name → Type 0
NameIn R n = R.names n.text ≡ true

-- each name in the tree, outside the bodies of function literals, is of the region
abbrev pub RefersIn : Region → Node → Type 0
RefersIn R at = (b : Node) → Stands at b → Each (NameIn R) (node_names b)
