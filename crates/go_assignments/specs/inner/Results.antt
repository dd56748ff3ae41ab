-- The results that values are used as.
use Rattle.std.specs.Prelude.{◌≡◌, List, [], ◌∷◌}
use Rattle.go_model.specs.declared.types.term.Term.{Term}
use Rattle.go_rules.specs.Environments.{Env}
use Rattle.go_rules.specs.Expressions.{Has, HasEach}
use Rattle.go_rules.specs.Operands.{plain}
use Rattle.go_rules.specs.Usability.{UsableAs}
use Rattle.go_rules.specs.declared.operand.Operand.{Operand}
use Rattle.go_statement_rules.specs.Assignments.{AreResults}
use Rattle.go_syntax.specs.declared.expression.Expr.{Expr}

-- a value of the type may be used as a result
abbrev pub IsResult : Env → Term → Term → Type 0
IsResult E t u = UsableAs E (plain t) u

-- each expression gives the result in its place
abbrev pub GivesEach : Env → List Term → List Expr → Type 0
GivesEach E results es = (os : List Operand) × HasEach E es os × AreResults E os results

-- the one expression is this operand
abbrev pub IsAlone : Env → List Expr → Operand → Type 0
IsAlone E es o = (e : Expr) × (es ≡ e ∷ []) × Has E e o
