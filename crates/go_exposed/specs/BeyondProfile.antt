-- The declarations that are beyond the profile: for a number, an inexact constant or an import in them, or for one on which they depend.
-- Public source: Go specification, "Integer literals", "Floating-point literals", "Imaginary literals", "Constants", "Constant declarations",
-- "Constant expressions", "Conversions" and "Import declarations". That a package may have such declarations, and which they are, is own.
use Rattle.std.specs.Prelude.{◌≡◌, ℕ, Bool, true, false, if◌then◌else◌, is_some, List, [], ◌∷◌, ◌++◌, length, None, Some}
use Rattle.go_base.specs.Lists.{Each, Has}
use Rattle.go_model.specs.constants.Classes.{class_of_basic, is_inexact}
use Rattle.go_model.specs.declared.constants.value.Basic.{Basic}
use Rattle.go_model.specs.declared.constants.value.Value.{Value}
use Rattle.go_model.specs.declared.types.package.ConstTerm.{ConstTerm}
use Rattle.go_model.specs.declared.types.term.Term.{Term, Term-F}
use Rattle.go_model.specs.types.Underlying.{under}
use Rattle.go_typings.specs.go_rules.Environments.{Env}
use Rattle.go_typings.specs.go_rules.Expressions.{Has as HasOperand, HasForm, IsCall, OfType, chain, unary_operator}
use Rattle.go_typings.specs.go_rules.Nodes.{ExprLayer, Node, Stands, expression}
use Rattle.go_typings.specs.go_rules.Operands.{ShapeWithin, constant_of, plain, type_name}
use Rattle.go_typings.specs.go_rules.Usability.{UsableAs}
use Rattle.go_typings.specs.go_rules.declared.operand.Operand.{Operand}
use Rattle.go_syntax.specs.declared.declaration.ConstSpec.{ConstSpec}
use Rattle.go_syntax.specs.declared.expression.Expr.{Expr, Expr-F, out-Expr}
use Rattle.go_syntax.specs.declared.expression.Literal.{Literal}
use Rattle.go_syntax.specs.declared.expression.Literal.TheVariants as literal
use Rattle.go_syntax.specs.declared.expression.Post.{Post, out-Post}
use Rattle.go_syntax.specs.declared.types.«Type».{«Type» as Typ}
use Rattle.go_typings.specs.Assignments.{At}
use Rattle.go_typings.specs.DeclarationNodes.{nodes}
use Rattle.go_typings.specs.Declarations.{Form, constants, Declaration, declarations}
use Rattle.go_typings.specs.PackageEnvironments.{Entries, environment}
use Rattle.go_typings.specs.References.{DependsOn}
use Rattle.go_typings.specs.Sources.{Import, PackageSource, Setting}
use Rattle.go_typings.specs.Typings.{IsClosed, Typing}
use Rattle.go_exposed.specs.ImportUses.{SelectsFrom}

-- ---- numbers

-- an integer that is too large, a floating-point number or an imaginary one
abbrev pub is_beyond : Literal → Bool
is_beyond literal.Wide = true
is_beyond literal.Float = true
is_beyond literal.Imaginary = true
is_beyond l = false

-- such a number is written in the declaration, outside of bodies
pub record HasNumber (f : Form) : Type 0 where
  pub node : Node
  pub has : Has (nodes f) node
  pub expr : Expr
  pub stands : Stands node (expression expr)
  pub literal : Literal
  pub is : out-Expr expr ≡ Expr-F.«Expr::Literal» literal
  pub beyond : is_beyond literal ≡ true

-- ---- inexact constants

-- a floating-point or complex type
pub record IsInexact (E : Env) (t : Term) : Type 0 where
  pub basic : Basic
  pub is : under E.table t ≡ Term-F.Plain basic
  pub inexact : is_inexact (class_of_basic basic) ≡ true

-- what an operator is applied to, or what stands in parentheses
abbrev pub operands : ExprLayer → List Expr
operands (Expr-F.Or x xs) = x ∷ xs
operands (Expr-F.And x xs) = x ∷ xs
operands (Expr-F.Compare x ops xs) = x ∷ xs
operands (Expr-F.Sum x ops xs) = x ∷ xs
operands (Expr-F.Product x ops xs) = x ∷ xs
operands (Expr-F.Prefix op x) = if is_some (unary_operator op) then x ∷ [] else []
operands (Expr-F.«Expr::Paren» x) = x ∷ []
operands l = []

-- Go may take the expression as a constant: it is one, or made of such ones by operators, parentheses and conversions to basic types
pub data MayBeConstant (E : Env) : Expr → Type 0 where
  may_itself : {e : Expr} {c : ConstTerm} {v : Value} → HasOperand E e (constant_of c v) → MayBeConstant E e
  may_operated : {e x : Expr} {xs : List Expr} → operands (out-Expr e) ≡ x ∷ xs → ((y : Expr) → Has (x ∷ xs) y → MayBeConstant E y) → MayBeConstant E e
  may_converted : {e f x : Expr} {t : Term} {b : Basic} (before : List Post) (c : Post) → out-Expr e ≡ Expr-F.Primary f (before ++ c ∷ []) → HasForm E (chain f before) (type_name t) → ShapeWithin (type_name t).shape → under E.table t ≡ Term-F.Plain b
      → IsCall (out-Post c) (x ∷ []) false → MayBeConstant E x → MayBeConstant E e

-- a value of a constant of the type, if one isn't given its own
pub record IsValueOf (E : Env) (t : Term) (e : Expr) : Type 0 where
  pub operand : Operand
  pub has : HasOperand E e operand
  pub usable : UsableAs E operand t
  pub constant : MayBeConstant E e

-- constants to which their spec gives an inexact type, with as many values of it
pub record GivesInexact (E : Env) (s : ConstSpec) : Type 0 where
  pub form : Typ
  pub given : s.type_ ≡ Some form
  pub type : Term
  pub is : OfType E form type
  pub inexact : IsInexact E type
  pub counted : length s.names ≡ length s.values
  pub values : Each (IsValueOf E type) s.values

abbrev pub HasInexactType : Env → Form → Type 0
HasInexactType E (constants s place) = GivesInexact E s
HasInexactType E f = ⊥

-- what may be a value of a constant
pub record IsValue (E : Env) (e : Expr) : Type 0 where
  pub operand : Operand
  pub has : HasOperand E e operand
  pub constant : MayBeConstant E e

-- constants without a given type and with as many values, one of which has an inexact type, and so is no constant here: `float64(a - b)`
pub record HoldsInexact (E : Env) (s : ConstSpec) : Type 0 where
  pub own : s.type_ ≡ None
  pub counted : length s.names ≡ length s.values
  pub values : Each (IsValue E) s.values
  pub value : Expr
  pub among : Has s.values value
  pub type : Term
  pub has : HasOperand E value (plain type)
  pub inexact : IsInexact E type

abbrev pub HasInexactValue : Env → Form → Type 0
HasInexactValue E (constants s place) = HoldsInexact E s
HasInexactValue E f = ⊥

module _ (s : Setting) (u : PackageSource) where
  -- where a closed set is typed that has all on which the declaration depends, this holds of it
  pub record HoldsTyped (P : Env → Form → Type 0) (n : ℕ) : Type 0 where
    pub within : ℕ → Bool
    pub entries : Entries
    pub closed : IsClosed s u within
    pub typing : Typing s u within entries
    pub needed : (m : ℕ) → At (declarations u) n (λ d. DependsOn u d.form m) → within m ≡ true
    pub holds : At (declarations u) n (λ d. P (environment s u entries d) d.form)

-- ---- imports

-- the declaration selects from an import that isn't found
pub record SelectsMissing (u : PackageSource) (d : Declaration) : Type 0 where
  pub «import» : Import
  pub selects : SelectsFrom u d «import»
  pub missing : «import».is_found ≡ false

-- ---- declarations

-- by itself, or for one on which it depends
pub data IsBeyond (s : Setting) (u : PackageSource) : ℕ → Type 0 where
  beyond_number : {n : ℕ} → At (declarations u) n (λ d. HasNumber d.form) → IsBeyond s u n
  beyond_type : {n : ℕ} → HoldsTyped s u HasInexactType n → IsBeyond s u n
  beyond_value : {n : ℕ} → HoldsTyped s u HasInexactValue n → IsBeyond s u n
  beyond_import : {n : ℕ} → At (declarations u) n (λ d. SelectsMissing u d) → IsBeyond s u n
  beyond_another : {m : ℕ} (n : ℕ) → At (declarations u) m (λ d. DependsOn u d.form n) → IsBeyond s u n → IsBeyond s u m
