-- Calls, over operands, and what a call of expressions knows of its argument.
-- Public source: Go specification, "Calls", "Conversions" and "Built-in functions".
use Rattle.std.specs.Prelude.{◌≡◌, Bool, true, false, List, [], ◌∷◌}
use Rattle.go_model.specs.declared.types.term.Term.{Term}
use Rattle.go_rules.specs.Environments.{Env}
use Rattle.go_rules.specs.Expressions.{Converts, HoldsNone, HoldsOne, measures_arrays}
use Rattle.go_rules.specs.Operands.{builtin, type_name}
use Rattle.go_rules.specs.declared.operand.Operand.{Operand}
use Rattle.go_rules.specs.declared.predeclared.Predeclared.{Predeclared}
use Rattle.go_syntax.specs.declared.expression.Expr.{Expr}
use Rattle.go_calls.specs.Builtins.{CallsBuiltin}
use Rattle.go_calls.specs.Functions.{CallsFunction}

-- what a call of an operand with these arguments is, the last of which stands before `...` or not
pub data Calls (E : Env) (loud : Bool) : Operand → List Operand → (dots : Bool) → Operand → Type 0 where
  calls_type : {t : Term} {o r : Operand} → Converts E o t r → Calls E loud (type_name t) (o ∷ []) false r
  calls_builtin : {f : Predeclared} {os : List Operand} {dots : Bool} {r : Operand} → CallsBuiltin E loud f os dots r → Calls E loud (builtin f) os dots r
  calls_value : {o r : Operand} {os : List Operand} {dots : Bool} → CallsFunction E dots o os r → Calls E loud o os dots r

-- in the expression a receive stands, or a call that is neither a conversion nor constant; or none does
abbrev pub IsLoud : Env → Expr → Bool → Type 0
IsLoud E e true = HoldsOne E e
IsLoud E e false = HoldsNone E e

-- this is told of the one argument of `len` and `cap`
abbrev pub IsTold : Env → Operand → List Expr → Bool → Type 0
IsTold E o es loud = (f : Predeclared) (e : Expr) → o ≡ builtin f → measures_arrays f ≡ true → es ≡ e ∷ [] → IsLoud E e loud
