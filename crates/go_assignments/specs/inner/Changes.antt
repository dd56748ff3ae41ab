-- What operators make of variables, as values of a type.
use Rattle.go_base.specs.declared.operator.AssignOperator.{AssignOperator}
use Rattle.go_base.specs.declared.operator.StepOperator.{StepOperator}
use Rattle.go_model.specs.declared.types.term.Term.{Term}
use Rattle.go_rules.specs.Environments.{Env}
use Rattle.go_rules.specs.Expressions.{Computes}
use Rattle.go_rules.specs.Usability.{UsableAs}
use Rattle.go_rules.specs.declared.operand.Operand.{Operand}
use Rattle.go_statement_rules.specs.Assignments.{Operates, one, step_operator}

-- one more than the operand, or one less, may be used as a value of the type
abbrev pub StepFits : Env → StepOperator → Operand → Term → Type 0
StepFits E op l t = (o : Operand) × Computes E (step_operator op) l one o × UsableAs E o t

-- the result of the operator may be
abbrev pub ResultFits : Env → AssignOperator → Operand → Operand → Term → Type 0
ResultFits E op l o t = (q : Operand) × Operates E op l o q × UsableAs E q t
