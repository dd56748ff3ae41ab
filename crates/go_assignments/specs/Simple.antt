-- What statements ask of the expressions in them, but for the blocks of function literals.
-- Public source: Go specification, "Expression statements", "Send statements", "IncDec statements", "Assignment statements" and "Return statements".
use Rattle.std.specs.Prelude.{◌≡◌, ◌⊎◌, true, List, length}
use Rattle.go_base.specs.Lists.{Each}
use Rattle.go_base.specs.declared.operator.AssignOperator.{AssignOperator}
use Rattle.go_base.specs.declared.operator.StepOperator.{StepOperator}
use Rattle.go_model.specs.declared.types.term.Direction.{Direction}
use Rattle.go_model.specs.declared.types.term.Term.{Term, Term-F}
use Rattle.go_model.specs.types.Underlying.{under}
use Rattle.go_rules.specs.Asks.{HasOperand, Meets}
use Rattle.go_rules.specs.Environments.{Env}
use Rattle.go_rules.specs.Expressions.{Computes, sends}
use Rattle.go_rules.specs.Nodes.{expression}
use Rattle.go_rules.specs.Operands.{IsTyped}
use Rattle.go_rules.specs.Usability.{UsableAs}
use Rattle.go_rules.specs.declared.operand.Operand.{Operand}
use Rattle.go_statement_rules.specs.Assignments.{AreAssigned, IsAssigned, IsCallAlone, IsReceiveAlone, Operates, Returns, one, step_operator}
use Rattle.go_syntax.specs.declared.expression.Expr.{Expr}
use Rattle.go_typings.specs.Initializers.{Initialize}

-- all that is asked in the expressions is met
abbrev pub AreMet : Env → List Expr → Type 0
AreMet E es = Each (λ e. Meets E (expression e)) es

-- a call by itself is typed, as behind `go` and `defer`
abbrev pub CallsAlone : Env → Expr → Type 0
CallsAlone E e = (o : Operand) × HasOperand E e o × IsCallAlone E e

-- an expression by itself is typed: a call or a receive
abbrev pub StandsAlone : Env → Expr → Type 0
StandsAlone E e = (o : Operand) × HasOperand E e o × (IsCallAlone E e ⊎ IsReceiveAlone e)

-- values of this type may be sent to the channel
abbrev pub TakesSent : Env → Operand → Term → Type 0
TakesSent E c u = (t : Term) × (d : Direction) × IsTyped c t × (under E.table t ≡ Term-F.Chan d u) × (sends d ≡ true)

-- the value may be sent to the channel
abbrev pub MaySend : Env → Operand → Operand → Type 0
MaySend E c o = (u : Term) × TakesSent E c u × UsableAs E o u

-- a send of a value to a channel is typed
abbrev pub Sends : Env → Expr → Expr → Type 0
Sends E e x = (c : Operand) × (o : Operand) × HasOperand E e c × HasOperand E x o × MaySend E c o

-- one may be added to the operand, or taken from it
abbrev pub MayStep : Env → StepOperator → Operand → Type 0
MayStep E op l = (t : Term) × (o : Operand) × IsAssigned l t × Computes E (step_operator op) l one o × UsableAs E o t

-- an increment or a decrement is typed
abbrev pub Steps : Env → StepOperator → Expr → Type 0
Steps E op e = (l : Operand) × HasOperand E e l × MayStep E op l

-- the operand may be given the result of the operator between it and another one
abbrev pub MayOperate : Env → AssignOperator → Operand → Operand → Type 0
MayOperate E op l o = (t : Term) × (q : Operand) × IsAssigned l t × Operates E op l o q × UsableAs E q t

-- an assignment with an operator is typed
abbrev pub OperatesOn : Env → AssignOperator → Expr → Expr → Type 0
OperatesOn E op e x = (l : Operand) × (o : Operand) × HasOperand E e l × HasOperand E x o × MayOperate E op l o

-- the values of the expressions may be assigned to the sides
abbrev pub MayAssign : Env → List Expr → List Expr → Type 0
MayAssign E es xs = (os : List Operand) × Initialize E (length es) xs os × AreAssigned E es os

-- an assignment is typed
abbrev pub Assigns : Env → List Expr → List Expr → Type 0
Assigns E es xs = MayAssign E es xs × AreMet E es × AreMet E xs

-- the values of a `return` are those of a function with these results
abbrev pub GivesResults : Env → List Term → List Expr → Type 0
GivesResults E results es = Returns E results es × AreMet E es
