-- Values that are compared with those of a type.
use Rattle.go_base.specs.declared.operator.CompareOp.TheVariants as compare
use Rattle.go_model.specs.declared.types.term.Term.{Term}
use Rattle.go_rules.specs.Asks.{HasOperand}
use Rattle.go_rules.specs.Environments.{Env}
use Rattle.go_rules.specs.Expressions.{IsComparison}
use Rattle.go_rules.specs.Operands.{plain}
use Rattle.go_rules.specs.declared.operand.Operand.{Operand}
use Rattle.go_syntax.specs.declared.expression.Expr.{Expr}
use Rattle.go_typings.specs.Initializers.{TypeOfValue}

-- a variable that is given the value of the expression is of this type
abbrev pub HasValueType : Env → Expr → Term → Type 0
HasValueType E e t = (o : Operand) × HasOperand E e o × TypeOfValue E o t

-- the value can be compared with those of the type
abbrev pub ComparesWith : Env → Term → Operand → Type 0
ComparesWith E t o = (r : Operand) × IsComparison E compare.Equal (plain t) o r
