-- Expressions that are constants by themselves.
use Rattle.go_model.specs.declared.constants.value.Value.{Value}
use Rattle.go_model.specs.declared.types.package.ConstTerm.{ConstTerm}
use Rattle.go_rules.specs.Environments.{Env}
use Rattle.go_rules.specs.Expressions.{Has}
use Rattle.go_rules.specs.Operands.{constant_of}
use Rattle.go_syntax.specs.declared.expression.Expr.{Expr}

pub record IsConstant (E : Env) (e : Expr) : Type 0 where
  pub term : ConstTerm
  pub value : Value
  pub has : Has E e (constant_of term value)
