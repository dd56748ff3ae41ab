-- Numbers beyond the profile that are written in trees.
-- Public source: Go specification, "Integer literals", "Floating-point literals" and "Imaginary literals".
use Rattle.std.specs.Prelude.{◌≡◌, ℕ, true, List}
use Rattle.go_base.specs.Lists.{Has}
use Rattle.go_exposed.specs.BeyondProfile.{HasNumber, is_beyond}
use Rattle.go_rules.specs.Nodes.{Node, Stands, expression, post, value, type, signature}
use Rattle.go_syntax.specs.declared.expression.Expr.{Expr, Expr-F, out-Expr}
use Rattle.go_syntax.specs.declared.expression.Literal.{Literal}
use Rattle.go_typings.specs.Assignments.{At}
use Rattle.go_typings.specs.Declarations.{Declaration}

-- the expression is such a number
pub record IsNumber (e : Expr) : Type 0 where
  pub literal : Literal
  pub is : out-Expr e ≡ Expr-F.«Expr::Literal» literal
  pub beyond : is_beyond literal ≡ true

abbrev pub IsNumberHere : Node → Type 0
IsNumberHere (expression e) = IsNumber e
IsNumberHere (post p) = ⊥
IsNumberHere (value v) = ⊥
IsNumberHere (type t) = ⊥
IsNumberHere (signature g) = ⊥

-- such a number stands in one of the trees
pub record HasNumberIn (ns : List Node) : Type 0 where
  pub node : Node
  pub has : Has ns node
  pub expr : Expr
  pub stands : Stands node (expression expr)
  pub number : IsNumber expr

-- such a number is written in the declaration of this number
abbrev pub HasNumberAt : List Declaration → ℕ → Type 0
HasNumberAt ds n = At ds n (λ d. HasNumber d.form)
