-- What follows an operand, and which calls in it are loud.
-- Public source: Go specification, "Primary expressions" and "Length and capacity".
use Rattle.std.specs.Prelude.{◌≡◌, Bool, true, false, ◌||◌, ◌&&◌, not, List, [], ◌∷◌, Result, Ok, Err}
use Rattle.go_rules.specs.Environments.{Env}
use Rattle.go_rules.specs.Expressions.{Has, HasPost, HasPosts, is_constant, is_type}
use Rattle.go_rules.specs.Nodes.{PostLayer, expression, post}
use Rattle.go_rules.specs.Operands.{ShapeWithin}
use Rattle.go_rules.specs.declared.operand.Operand.{Operand}
use Rattle.go_syntax.specs.declared.expression.Expr.{Expr}
use Rattle.go_syntax.specs.declared.expression.Post.{Post, Post-F, out-Post}
use Rattle.go_syntax.specs.declared.name.Name.{Name}
use Rattle.go_literals.specs.go_type_terms.Loudness.{AreLoud}
use Rattle.go_literals.specs.go_type_terms.declared.error.ExprError.{ExprError}
use Rattle.go_literals.specs.go_type_terms.declared.error.ExprError.TheVariants.{NoMemory, Untyped}
use Rattle.go_expr.specs.Imports.{ImportedWithin}

-- a call
abbrev pub is_call : PostLayer → Bool
is_call (Post-F.Call xs dots) = true
is_call (Post-F.CallReceiveChan t xs dots) = true
is_call l = false

-- a call of an operand that is neither a conversion nor constant
abbrev pub is_loud_call : Operand → PostLayer → Operand → Bool
is_loud_call o l r = is_call l && (not (is_type o.mode) && not (is_constant r.mode))

-- what one post makes of an operand, within bounds; the flag tells whether it is loud, in its parts or as a call
abbrev pub IsStep : Env → Operand → Post → Operand → Bool → Type 0
IsStep E o x r loud = HasPost E o (out-Post x) r × ShapeWithin r.shape × (inside : Bool) × AreLoud E (post x ∷ []) inside × (loud ≡ (inside || is_loud_call o (out-Post x) r))

-- what posts make of an operand, each within bounds, and whether one of them is loud
pub data Ran (E : Env) : Operand → List Post → Operand → Bool → Type 0 where
  ran_none : {o : Operand} → Ran E o [] o false
  ran_more : {o q r : Operand} {x : Post} {xs : List Post} {a b : Bool} → IsStep E o x q a → Ran E q xs r b → Ran E o (x ∷ xs) r (a || b)

-- the answer of one post
abbrev pub StepTyped : Env → Operand → Post → Result (Operand × Bool) ExprError → Type 0
StepTyped E o x (Ok a) = IsStep E o x a.0 a.1
StepTyped E o x (Err NoMemory) = Unit {0}
StepTyped E o x (Err Untyped) = (r : Operand) → HasPost E o (out-Post x) r → ShapeWithin r.shape → ⊥

-- the answer of posts
abbrev pub PostsTyped : Env → Operand → List Post → Result (Operand × Bool) ExprError → Type 0
PostsTyped E o xs (Ok a) = Ran E o xs a.0 a.1
PostsTyped E o xs (Err NoMemory) = Unit {0}
PostsTyped E o xs (Err Untyped) = (r : Operand) → HasPosts E o xs r → ⊥

-- the answer of an operand and posts
abbrev pub UnqualifiedTyped : Env → Expr → List Post → Result (Operand × Bool) ExprError → Type 0
UnqualifiedTyped E e xs (Ok a) = (o : Operand) × (b : Bool) × (c : Bool) × Has E e o × AreLoud E (expression e ∷ []) b × Ran E o xs a.0 c × (a.1 ≡ (b || c))
UnqualifiedTyped E e xs (Err NoMemory) = Unit {0}
UnqualifiedTyped E e xs (Err Untyped) = (o r : Operand) → Has E e o → HasPosts E o xs r → ⊥

-- the answer of a name of an imported package and posts
abbrev pub QualifiedTyped : Env → Name → Name → List Post → Result (Operand × Bool) ExprError → Type 0
QualifiedTyped E q n xs (Ok a) = (o : Operand) × ImportedWithin E q n o × Ran E o xs a.0 a.1
QualifiedTyped E q n xs (Err NoMemory) = Unit {0}
QualifiedTyped E q n xs (Err Untyped) = (o r : Operand) → ImportedWithin E q n o → HasPosts E o xs r → ⊥
