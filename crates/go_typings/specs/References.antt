-- Which declarations a declaration refers to, leads on to and has to come after.
-- Public source: Go specification, "Declarations and scope", "Composite literals", "Selectors", "Method expressions",
-- "Array types" and "Struct types". That a type refers to its methods, and what counts, is own.
use Rattle.std.specs.Prelude.{◌≡◌, ◌<◌, ℕ, Bool, true, false, List, ◌∷◌, ◌++◌, Some}
use Rattle.go_references.specs.go_base.Lists.{Has}
use Rattle.go_rules.specs.go_model.declared.types.names.Sel.{Sel}
use Rattle.go_rules.specs.go_model.declared.types.names.TypeName.{TypeName}
use Rattle.go_rules.specs.go_model.declared.types.term.Field.{Field}
use Rattle.go_rules.specs.go_model.declared.types.term.Signature.{Signature}
use Rattle.go_rules.specs.go_model.declared.types.term.Term.{Term, Term-F}
use Rattle.go_rules.specs.go_model.types.Selectors.{is_defined_pointer, method as found_method}
use Rattle.go_rules.specs.go_model.types.Underlying.{under}
use Rattle.go_references.specs.declared.references.Reference.{Reference}
use Rattle.go_references.specs.go_syntax.declared.expression.Element.{Element, out-Element}
use Rattle.go_references.specs.go_syntax.declared.expression.ElementValue.{ElementValue, ElementValue-F, out-ElementValue}
use Rattle.go_references.specs.go_syntax.declared.expression.Expr.{Expr, Expr-F, out-Expr}
use Rattle.go_references.specs.go_syntax.declared.expression.Post.{Post, Post-F, out-Post}
use Rattle.go_references.specs.go_syntax.declared.name.Name.{Name}
use Rattle.go_references.specs.go_syntax.declared.types.«Type».{«Type» as Typ}
use Rattle.go_rules.specs.Environments.{Env, Found, selector_of}
use Rattle.go_rules.specs.Expressions.{HasFieldKey, HasForm, OfType, array_of, chain}
use Rattle.go_rules.specs.Nodes.{Node, Stands, expression}
use Rattle.go_rules.specs.Operands.{IsTyped, ShapeWithin, type_name}
use Rattle.go_rules.specs.declared.operand.Operand.{Operand}
use Rattle.go_typings.specs.Assignments.{At}
use Rattle.go_typings.specs.DeclarationNodes.{length_references, nodes, references, strong_references}
use Rattle.go_typings.specs.Declarations.{Form, definition, Declared, declarations, declared}
use Rattle.go_typings.specs.PackageEnvironments.{Entries, environment}
use Rattle.go_typings.specs.Receivers.{DeclaredMethod, declared_methods, methods}
use Rattle.go_typings.specs.Sources.{PackageSource, Setting}

-- ---- the declarations of names

-- the name is that of the declaration of this number
abbrev pub IsDeclaredAs : PackageSource → Name → ℕ → Type 0
IsDeclaredAs u name n = (d : Declared) × (declared (declarations u) name.text ≡ Some d) × (d.number ≡ n)

-- a type has the method that is declared by the declaration of this number
abbrev pub HasDeclared : PackageSource → List ℕ → ℕ → Type 0
HasDeclared u type n = (m : DeclaredMethod) × Has (declared_methods u type) m × (m.number ≡ n)

abbrev pub HasMethods : PackageSource → Form → ℕ → Type 0
HasMethods u (definition s) n = HasDeclared u s.name.text n
HasMethods u f n = ⊥

-- a declaration depends on those of the names in it, and a defined type on all its methods
pub data DependsOn (u : PackageSource) (f : Form) (n : ℕ) : Type 0 where
  by_name : (r : Reference) → Has (references f) r → IsDeclaredAs u r.name n → DependsOn u f n
  to_method : HasMethods u f n → DependsOn u f n

-- ---- keys of struct literals

-- the type of the values of a composite literal of an array, a slice or a map
pub data HoldsValues (E : Env) : Term → Term → Type 0 where
  holds_item : {t e : Term} {n : ℕ} → under E.table t ≡ Term-F.Array n e → HoldsValues E t e
  holds_slice_item : {t e : Term} → under E.table t ≡ Term-F.Slice e → HoldsValues E t e
  holds_map_item : {t k e : Term} → under E.table t ≡ Term-F.Map k e → HoldsValues E t e

-- where a value of the first type is wanted, a literal without a type is of this type: the same, or the base of a pointer type
pub data IsOmitted (E : Env) : Term → Term → Type 0 where
  omitted_itself : {t : Term} → IsOmitted E t t
  omitted_base : {t base : Term} → under E.table t ≡ Term-F.Pointer base → IsOmitted E t base

-- a composite literal of this type with these elements stands in the tree
pub data HasLiteral (E : Env) (at : Node) : Term → List Element → Type 0 where
  literal : {e : Expr} {t : Typ} {xs : List Element} {v : Term} → Stands at (expression e) → out-Expr e ≡ Expr-F.Composite t xs → OfType E t v → HasLiteral E at v xs
  literal_array : {e : Expr} {t : Typ} {xs : List Element} {v : Term} (n : ℕ) → Stands at (expression e) → out-Expr e ≡ Expr-F.CompositeArray t xs → OfType E t v → HasLiteral E at (array_of n v) xs
  literal_key : {t k e v : Term} {xs ys : List Element} {key : ElementValue} (x : Element) → HasLiteral E at t xs → Has xs x → (out-Element x).key ≡ Some key → out-ElementValue key ≡ ElementValue-F.«ElementValue::Literal» ys → under E.table t ≡ Term-F.Map k e → IsOmitted E k v → HasLiteral E at v ys
  literal_value : {t e v : Term} {xs ys : List Element} (x : Element) → HasLiteral E at t xs → Has xs x → out-ElementValue (out-Element x).value ≡ ElementValue-F.«ElementValue::Literal» ys → HoldsValues E t e → IsOmitted E e v → HasLiteral E at v ys

-- the name is a key of a struct's literal in the tree: that of a field
pub record IsFieldKey (E : Env) (at : Node) (name : Name) : Type 0 where
  pub type : Term
  pub fields : List Field
  pub elements : List Element
  pub element : Element
  pub stands : HasLiteral E at type elements
  pub struct : under E.table type ≡ Term-F.Struct fields
  pub has : Has elements element
  pub key : HasFieldKey element name

-- one of the references names the declaration of this number, and not a field
pub record NamesDeclaration (E : Env) (u : PackageSource) (f : Form) (rs : List Reference) (n : ℕ) : Type 0 where
  pub reference : Reference
  pub has : Has rs reference
  pub names : IsDeclaredAs u reference.name n
  pub counts : reference.is_key ≡ true → (at : Node) → Has (nodes f) at → IsFieldKey E at reference.name → ⊥

-- ---- methods that are found

-- in the tree the name is selected of this operand
pub record Selects (E : Env) (at : Node) (o : Operand) (name : Name) : Type 0 where
  pub whole : Expr
  pub operand : Expr
  pub before : List Post
  pub post : Post
  pub after : List Post
  pub stands : Stands at (expression whole)
  pub is : out-Expr whole ≡ Expr-F.Primary operand (before ++ post ∷ after)
  pub selector : out-Post post ≡ Post-F.Selector name
  pub has : HasForm E (chain operand before) o
  pub within : ShapeWithin o.shape

-- the selector finds a method of this type in the operand: as a method value, or as a method expression; through a type
-- that is defined over a pointer it finds none
pub data FindsOf (E : Env) (o : Operand) (s : Sel) (owner : TypeName) : Type 0 where
  finds_value : {t : Term} {through pointer : Bool} {g : Signature} → IsTyped o t → Found E s t (record { through = through; target = found_method (Some owner) pointer g }) → is_defined_pointer E.table t ≡ false → FindsOf E o s owner
  finds_expression : {t : Term} {through pointer : Bool} {g : Signature} → o ≡ type_name t → Found E s t (record { through = through; target = found_method (Some owner) pointer g }) → is_defined_pointer E.table t ≡ false → FindsOf E o s owner

-- a selector in the tree finds a method of this type
pub record Finds (E : Env) (at : Node) (owner : TypeName) (s : Sel) : Type 0 where
  pub operand : Operand
  pub name : Name
  pub selected : Selects E at operand name
  pub sel : selector_of E name.text ≡ s
  pub found : FindsOf E operand s owner

-- the declaration of this number is that of a method of the package that is found in a declaration
pub record FindsMethod (E : Env) (u : PackageSource) (f : Form) (n : ℕ) : Type 0 where
  pub type : List ℕ
  pub method : DeclaredMethod
  pub at : Node
  pub stands : Has (nodes f) at
  pub found : Finds E at (record { path = u.path; name = type }) method.sel
  pub has : Has (methods u type) method
  pub number : method.number ≡ n

module _ (s : Setting) (u : PackageSource) (a : Entries) where
  -- zero or more steps lead from the one declaration to the other: by names, and by methods that are found
  pub data LeadsTo : ℕ → ℕ → Type 0 where
    leads_here : {m : ℕ} → LeadsTo m m
    leads_by_name : {k n : ℕ} (m : ℕ) → At (declarations u) k (λ d. NamesDeclaration (environment s u a d) u d.form (references d.form) m) → LeadsTo m n → LeadsTo k n
    leads_by_method : {k n : ℕ} (m : ℕ) → At (declarations u) k (λ d. FindsMethod (environment s u a d) u d.form m) → LeadsTo m n → LeadsTo k n

  -- no name in the length of an array leads back to the declaration of a type, function or method in which it stands
  abbrev pub NoLengthLeadsBack : (ℕ → Bool) → Type 0
  NoLengthLeadsBack within = (m n : ℕ) → within m ≡ true → At (declarations u) m (λ d. NamesDeclaration (environment s u a d) u d.form (length_references d.form) n) → LeadsTo n m → ⊥

  -- a number for each declaration that falls along its strong references
  abbrev pub Falls : (ℕ → Bool) → (ℕ → ℕ) → Type 0
  Falls within rank = (m n : ℕ) → within m ≡ true → At (declarations u) m (λ d. NamesDeclaration (environment s u a d) u d.form (strong_references d.form) n) → rank n < rank m
