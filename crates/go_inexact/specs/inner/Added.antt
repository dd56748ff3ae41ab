-- Trees to which the argument of a conversion was added, or that are the same.
use Rattle.std.specs.Prelude.{◌≡◌, ◌++◌, ◌∷◌, Bool, true, false, List, []}
use Rattle.go_inexact.specs.Chains.{Converts, IsTypeForm, NamesBasic}
use Rattle.go_rules.specs.Environments.{Env}
use Rattle.go_rules.specs.Expressions.{IsCall}
use Rattle.go_rules.specs.Nodes.{Node, expression}
use Rattle.go_syntax.specs.declared.expression.Expr.{Expr}
use Rattle.go_syntax.specs.declared.expression.Post.{Post, out-Post}

-- the last of the posts converts this
pub record ConvertsLast (E : Env) (operand : Expr) (posts : List Post) (x : Expr) : Type 0 where
  pub before : List Post
  pub call : Post
  pub is : posts ≡ before ++ call ∷ []
  pub argument : IsCall (out-Post call) (x ∷ []) false
  pub basic : NamesBasic E operand before

abbrev pub AddsArgument : Env → Expr → List Post → List Node → List Node → Bool → Type 0
AddsArgument E operand posts old new true = (x : Expr) × (new ≡ old ++ expression x ∷ []) × ConvertsLast E operand posts x
AddsArgument E operand posts old new false = (x : Expr) → ConvertsLast E operand posts x → IsTypeForm x

abbrev pub AddsConverted : Env → Expr → List Node → List Node → Bool → Type 0
AddsConverted E e old new true = (x : Expr) × (new ≡ old ++ expression x ∷ []) × Converts E e x
AddsConverted E e old new false = (x : Expr) → Converts E e x → IsTypeForm x
