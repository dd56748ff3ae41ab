-- Calls that stand alone, by what is called.
use Rattle.std.specs.Prelude.{◌≡◌, ◌⊎◌, Bool, true, false, List, [], ◌∷◌, ◌++◌}
use Rattle.go_asks.specs.go_expr.Chains.{NamesImported}
use Rattle.go_rules.specs.Environments.{Env}
use Rattle.go_rules.specs.Expressions.{Has, HasPosts}
use Rattle.go_rules.specs.Nodes.{PostLayer}
use Rattle.go_rules.specs.declared.operand.Operand.{Operand}
use Rattle.go_statement_rules.specs.Assignments.{may_be_called_alone}
use Rattle.go_syntax.specs.declared.expression.Expr.{Expr, Expr-F, out-Expr}
use Rattle.go_syntax.specs.declared.expression.Post.{Post, Post-F, out-Post}

-- what posts make of an object of an imported package
abbrev pub ImportedAlong : Env → Expr → List Post → Operand → Type 0
ImportedAlong E e [] r = ⊥
ImportedAlong E e (x ∷ xs) r = (o : Operand) × NamesImported E e x o × HasPosts E o xs r

-- what an expression is with what follows it
abbrev pub IsAlong : Env → Expr → List Post → Operand → Type 0
IsAlong E e xs r = ((o : Operand) × Has E e o × HasPosts E o xs r) ⊎ ImportedAlong E e xs r

-- a call of it is a statement
abbrev pub MayCall : Env → Expr → List Post → Type 0
MayCall E e xs = (o : Operand) × IsAlong E e xs o × (may_be_called_alone o.mode o.shape ≡ true)

-- a call
abbrev pub is_call_of : PostLayer → Bool
is_call_of (Post-F.Call xs dots) = true
is_call_of (Post-F.CallReceiveChan t xs dots) = true
is_call_of l = false

-- the last of what follows the expression is a call that is a statement
abbrev pub EndsInCall : Env → Expr → List Post → Type 0
EndsInCall E e ps = (before : List Post) × (c : Post) × (ps ≡ before ++ c ∷ []) × (is_call_of (out-Post c) ≡ true) × MayCall E e before

-- a call that is a statement, parentheses aside
pub data CallsAlong (E : Env) : Expr → Type 0 where
  calls_along : {e x : Expr} {ps : List Post} → out-Expr e ≡ Expr-F.Primary x ps → EndsInCall E x ps → CallsAlong E e
  calls_in_parentheses : {e x : Expr} → out-Expr e ≡ Expr-F.«Expr::Paren» x → CallsAlong E x → CallsAlong E e
