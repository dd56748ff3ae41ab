-- What an expression and some of what follows it denote.
-- Public source: Go specification, "Primary expressions", "Qualified identifiers" and "Conversions".
use Rattle.std.specs.Prelude.{◌≡◌, ◌++◌, ◌∷◌, false, List, [], Option, None, Some}
use denote.Ref.{Bor}
use Rattle.go_expr.specs.Chains.{NamesImported}
use Rattle.go_model.specs.declared.constants.value.Basic.{Basic}
use Rattle.go_model.specs.declared.types.term.Term.{Term, Term-F}
use Rattle.go_model.specs.types.Underlying.{under}
use Rattle.go_rules.specs.Environments.{Env}
use Rattle.go_rules.specs.Expressions.{HasForm, HasPosts, IsCall, chain}
use Rattle.go_rules.specs.Operands.{ShapeWithin, type_name}
use Rattle.go_rules.specs.declared.operand.Operand.{Operand}
use Rattle.go_syntax.specs.declared.expression.Expr.{Expr, Expr-F, out-Expr}
use Rattle.go_syntax.specs.declared.expression.Post.{Post, out-Post}
use Rattle.go_syntax.specs.declared.types.«Type».{«Type» as Typ}

-- the expression with these posts is this operand
abbrev pub IsChain : Env → Expr → List Post → Operand → Type 0
IsChain E e ps o = HasForm E (chain e ps) o × ShapeWithin o.shape

-- the same where the expression and the first post name an object of an imported package
abbrev pub IsImportedChain : Env → Expr → List Post → Operand → Type 0
IsImportedChain E e [] r = ⊥
IsImportedChain E e (x ∷ xs) r = (o : Operand) × NamesImported E e x o × HasPosts E o xs r

-- the expression with these posts is a type that is basic underneath
pub record NamesBasic (E : Env) (e : Expr) (ps : List Post) : Type 0 where
  pub type : Term
  pub is : IsChain E e ps (type_name type)
  pub basic : Basic
  pub under_it : under E.table type ≡ Term-F.Plain basic

-- the expression converts the other one to such a type
pub record Converts (E : Env) (e x : Expr) : Type 0 where
  pub operand : Expr
  pub before : List Post
  pub call : Post
  pub is : out-Expr e ≡ Expr-F.Primary operand (before ++ call ∷ [])
  pub argument : IsCall (out-Post call) (x ∷ []) false
  pub basic : NamesBasic E operand before

-- an expression that is a type by its form
pub record IsTypeForm (x : Expr) : Type 0 where
  pub form : Typ
  pub is : out-Expr x ≡ Expr-F.«Expr::Type» form

-- the post is a call with this one argument; None where it has another number, or one that is a type by its form
abbrev pub HasArgument : Post → Option (Bor Expr) → Type 0
HasArgument c None = (x : Expr) → IsCall (out-Post c) (x ∷ []) false → IsTypeForm x
HasArgument c (Some x) = IsCall (out-Post c) (x.now ∷ []) false
