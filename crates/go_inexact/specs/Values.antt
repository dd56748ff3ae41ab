-- Constants of a spec that have an inexact type, in an environment.
-- Own: words of the contracts.
use Rattle.std.specs.Prelude.{◌⊎◌, List}
use Rattle.go_base.specs.Lists.{Has}
use Rattle.go_exposed.specs.BeyondProfile.{HasInexactType, HasInexactValue, IsInexact}
use Rattle.go_rules.specs.Environments.{Env}
use Rattle.go_rules.specs.Expressions.{Has as HasOperand}
use Rattle.go_rules.specs.Operands.{plain}
use Rattle.go_model.specs.declared.types.term.Term.{Term}
use Rattle.go_syntax.specs.declared.expression.Expr.{Expr}
use Rattle.go_typings.specs.Declarations.{Form}

-- the expression is a value of an inexact type, and no constant here
pub record IsInexactValue (E : Env) (e : Expr) : Type 0 where
  pub type : Term
  pub has : HasOperand E e (plain type)
  pub inexact : IsInexact E type

pub record OneIsInexact (E : Env) (es : List Expr) : Type 0 where
  pub expr : Expr
  pub among : Has es expr
  pub value : IsInexactValue E expr

-- the constants of a declaration have an inexact type
abbrev pub IsInexactForm : Env → Form → Type 0
IsInexactForm E f = HasInexactType E f ⊎ HasInexactValue E f
