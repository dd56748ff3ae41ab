-- Trees that Go may take as constants.
-- Public source: Go specification, "Constant expressions".
use Rattle.std.specs.Prelude.{◌≡◌, ◌++◌, Bool, true, false, is_some, List}
use Rattle.go_base.specs.Lists.{Each}
use Rattle.go_exposed.specs.BeyondProfile.{MayBeConstant}
use Rattle.go_rules.specs.Environments.{Env}
use Rattle.go_rules.specs.Expressions.{unary_operator}
use Rattle.go_rules.specs.Nodes.{ExprLayer, Node, expression, post, value, type, signature}
use Rattle.go_syntax.specs.declared.expression.Expr.{Expr, Expr-F}

abbrev pub MayBe : Env → Node → Type 0
MayBe E (expression e) = MayBeConstant E e
MayBe E (post p) = ⊥
MayBe E (value v) = ⊥
MayBe E (type t) = ⊥
MayBe E (signature g) = ⊥

-- it is made of others by operators or parentheses
abbrev pub is_operated : ExprLayer → Bool
is_operated (Expr-F.Or x xs) = true
is_operated (Expr-F.And x xs) = true
is_operated (Expr-F.Compare x ops xs) = true
is_operated (Expr-F.Sum x ops xs) = true
is_operated (Expr-F.Product x ops xs) = true
is_operated (Expr-F.Prefix op x) = is_some (unary_operator op)
is_operated (Expr-F.«Expr::Paren» x) = true
is_operated l = false

-- these came to the trees, and the expression may be a constant exactly where each of them may; or it can't be one
abbrev pub Follows : Env → Expr → List Node → List Node → Bool → Type 0
Follows E e old new true = (ns : List Node) × (new ≡ old ++ ns) × (MayBeConstant E e → Each (MayBe E) ns) × (Each (MayBe E) ns → MayBeConstant E e)
Follows E e old new false = MayBeConstant E e → ⊥

-- the same of a tree
abbrev pub FollowsTree : Env → Node → List Node → List Node → Bool → Type 0
FollowsTree E a old new true = (ns : List Node) × (new ≡ old ++ ns) × (MayBe E a → Each (MayBe E) ns) × (Each (MayBe E) ns → MayBe E a)
FollowsTree E a old new false = MayBe E a → ⊥
