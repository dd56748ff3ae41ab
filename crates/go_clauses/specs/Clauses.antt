-- What headers and clauses ask of the expressions in them, but for the blocks of function literals.
-- Public source: Go specification, "If statements", "For statements", "Expression switches" and "Type switches".
use Rattle.std.specs.Prelude.{◌≡◌, ◌≤◌, List, [], ◌∷◌, map, take, length, Option, None, Some}
use Rattle.go_base.specs.Lists.{Each}
use Rattle.go_model.specs.declared.types.term.Method.{Method}
use Rattle.go_model.specs.declared.types.term.Term.{Term, Term-F}
use Rattle.go_model.specs.types.Underlying.{under}
use Rattle.go_rules.specs.Asks.{HasOperand}
use Rattle.go_rules.specs.Environments.{Env}
use Rattle.go_rules.specs.Operands.{IsTyped, plain}
use Rattle.go_rules.specs.declared.operand.Operand.{Operand}
use Rattle.go_statement_rules.specs.Assignments.{AreAssigned}
use Rattle.go_statement_rules.specs.Clauses.{IsCase, IsTag, Ranges}
use Rattle.go_statement_rules.specs.Statements.{IsNew, IsTruth}
use Rattle.go_syntax.specs.declared.expression.Expr.{Expr}
use Rattle.go_syntax.specs.declared.name.Name.{Name}
use Rattle.go_assignments.specs.Simple.{AreMet}

-- the expression is a truth value
abbrev pub IsConditionOf : Env → Expr → Type 0
IsConditionOf E e = (o : Operand) × HasOperand E e o × IsTruth E o

-- a range over the expression gives these types
abbrev pub RangesOver : Env → Expr → List Term → Type 0
RangesOver E e ts = (o : Operand) × HasOperand E e o × Ranges E o ts

-- the sides are assigned as many values of these types
abbrev pub TakesValues : Env → List Expr → List Term → Type 0
TakesValues E es ts = (length es ≤ length ts) × AreAssigned E es (map plain (take (length es) ts)) × AreMet E es

-- the names are declared for as many values of these types
abbrev pub TakesNames : List Name → List Term → Type 0
TakesNames ns ts = (length ns ≤ length ts) × IsNew ns

-- the tag, where there is one
abbrev pub tag_of : Option Expr → List Expr
tag_of None = []
tag_of (Some e) = e ∷ []

-- the type with whose values those of the clauses are compared
abbrev pub IsTagOf : Env → Option Expr → Term → Type 0
IsTagOf E e t = IsTag E e t × AreMet E (tag_of e)

-- the values of a clause can be compared with those of the type
abbrev pub AreCasesOf : Env → Term → List Expr → Type 0
AreCasesOf E t es = Each (IsCase E t) es × AreMet E es

-- the interface type of the operand of a type switch
abbrev pub IsGuardOf : Env → Expr → Term → Type 0
IsGuardOf E e t = (o : Operand) × (ms : List Method) × HasOperand E e o × IsTyped o t × (under E.table t ≡ Term-F.Interface ms)
