-- Chains of operators, from left to right.
-- Public source: Go specification, "Operators" and "Operator precedence".
use Rattle.std.specs.Prelude.{◌≡◌, ℕ, List, [], ◌∷◌, map, replicate, Option, Some, None}
use Rattle.go_rules.specs.Environments.{Env}
use Rattle.go_rules.specs.Expressions.{Computes, Has, IsComparison, ProductComputes, product_operator, sum_operator}
use Rattle.go_rules.specs.declared.operand.Operand.{Operand}
use Rattle.go_syntax.specs.declared.expression.Expr.{Expr}
use Rattle.go_operations.specs.declared.operators.Operator.{Operator}
use Rattle.go_operations.specs.declared.operators.Operator.TheVariants as operator
use Rattle.go_operations.specs.declared.operators.Operators.{Operators}
use Rattle.go_operations.specs.declared.operators.Operators.TheVariants as operators

-- what the operator makes of two operands
abbrev pub Combines : Env → Operator → Operand → Operand → Operand → Type 0
Combines E (operator.Logical op) l r o = Computes E op l r o
Combines E (operator.Compare op) l r o = IsComparison E op l r o
Combines E (operator.Sum op) l r o = Computes E (sum_operator op) l r o
Combines E (operator.Product op) l r o = ProductComputes E (product_operator op) l r o

-- the operators before so many operands
abbrev pub operators_of : Operators → ℕ → List Operator
operators_of (operators.Logical op) n = replicate n (operator.Logical op)
operators_of (operators.Compare ops) n = map operator.Compare ops.now
operators_of (operators.Sum ops) n = map operator.Sum ops.now
operators_of (operators.Product ops) n = map operator.Product ops.now

-- one more operator and the operand behind it
abbrev pub Steps : Env → Option Operator → Operand → Expr → Operand → Type 0
Steps E None l e r = ⊥
Steps E (Some op) l e r = (o : Operand) × Has E e o × Combines E op l o r

-- a chain of operators after an operand
pub data Chains (E : Env) : List Operator → Operand → List Expr → Operand → Type 0 where
  chain_none : {o : Operand} → Chains E [] o [] o
  chain_more : {op : Operator} {ops : List Operator} {o r s : Operand} {e : Expr} {es : List Expr} → Steps E (Some op) o e r → Chains E ops r es s → Chains E (op ∷ ops) o (e ∷ es) s

-- a chain of operators, with the first operand
abbrev pub ChainsFrom : Env → List Operator → Expr → List Expr → Operand → Type 0
ChainsFrom E ops e es r = (o : Operand) × Has E e o × Chains E ops o es r
