-- Trees in which a receive stands, or a call that is neither a conversion nor constant: the length of an array in such
-- an expression is no constant.
-- Public source: Go specification, "Length and capacity".
use Rattle.std.specs.Prelude.{◌≡◌, Bool, true, false, List, ◌∷◌, [], ◌++◌}
use Rattle.go_base.specs.Lists.{Has as In}
use Rattle.go_syntax.specs.declared.expression.Expr.{Expr, out-Expr}
use Rattle.go_syntax.specs.declared.expression.Post.{Post}
use Rattle.go_rules.specs.Environments.{Env}
use Rattle.go_rules.specs.Expressions.{HasForm, IsQuietCall, CallsAt, chain, is_constant, is_receive, is_type}
use Rattle.go_rules.specs.Nodes.{Node, Stands, expression}
use Rattle.go_rules.specs.declared.operand.Operand.{Operand}

-- no receive stands in the tree, and each call in it is a conversion or constant
pub record Quiet (E : Env) (n : Node) : Type 0 where
  pub receives : (x : Expr) → Stands n (expression x) → is_receive (out-Expr x) ≡ false
  pub calls : (y x : Expr) (before : List Post) (c : Post) → Stands n (expression y) → CallsAt y x before c → IsQuietCall E x before c

-- a receive stands in the tree, or a call that is neither a conversion nor constant
pub data Loud (E : Env) (n : Node) : Type 0 where
  loud_receive : (x : Expr) → Stands n (expression x) → is_receive (out-Expr x) ≡ true → Loud E n
  loud_call : (y x : Expr) (before : List Post) (c : Post) {o r : Operand} → Stands n (expression y) → CallsAt y x before c → HasForm E (chain x before) o → is_type o.mode ≡ false → HasForm E (chain x (before ++ c ∷ [])) r → is_constant r.mode ≡ false → Loud E n

-- the flag tells whether one of the trees is so
abbrev pub AreLoud : Env → List Node → Bool → Type 0
AreLoud E ns true = (n : Node) × In ns n × Loud E n
AreLoud E ns false = (n : Node) → In ns n → Quiet E n
