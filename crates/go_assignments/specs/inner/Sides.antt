-- What a side of an assignment takes.
use Rattle.go_model.specs.declared.types.term.Term.{Term}
use Rattle.go_rules.specs.Environments.{Env}
use Rattle.go_rules.specs.Expressions.{Has}
use Rattle.go_rules.specs.Usability.{UsableAs}
use Rattle.go_rules.specs.declared.operand.Operand.{Operand}
use Rattle.go_statement_rules.specs.Assignments.{IsAssigned, IsBlankSide}
use Rattle.go_syntax.specs.declared.expression.Expr.{Expr}
use Rattle.go_typings.specs.Initializers.{TypeOfValue}

-- a variable of the value's own or default type could be given it
abbrev pub HasType : Env → Operand → Type 0
HasType E o = (t : Term) × TypeOfValue E o t

-- the operand is assigned the value
abbrev pub IsGiven : Env → Operand → Operand → Type 0
IsGiven E l o = (t : Term) × IsAssigned l t × UsableAs E o t

-- the expression is what is assigned the value
abbrev pub TakesOperand : Env → Expr → Operand → Type 0
TakesOperand E e o = (l : Operand) × Has E e l × IsGiven E l o

-- the blank name, which takes a value of any type
abbrev pub TakesBlank : Env → Expr → Operand → Type 0
TakesBlank E e o = IsBlankSide e × HasType E o

-- the side is assigned the value
pub data Takes (E : Env) (e : Expr) (o : Operand) : Type 0 where
  takes_blank : TakesBlank E e o → Takes E e o
  takes_operand : TakesOperand E e o → Takes E e o
