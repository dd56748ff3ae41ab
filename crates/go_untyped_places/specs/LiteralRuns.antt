-- The runs of the function literals in trees.
-- Public source: Go specification, "Function literals".
use Rattle.std.specs.Prelude.{◌≡◌, List}
use Rattle.go_base.specs.Lists.{Has as In}
use Rattle.go_rules.specs.Environments.{Env}
use Rattle.go_rules.specs.Nodes.{Node, Stands, expression}
use Rattle.go_statement_rules.specs.Functions.{Enclosing, EntersFunction, Run}
use Rattle.go_statement_rules.specs.Scopes.{Scopes}
use Rattle.go_syntax.specs.declared.body.BodyRange.{BodyRange}
use Rattle.go_syntax.specs.declared.expression.Expr.{Expr, Expr-F, out-Expr}
use Rattle.go_syntax.specs.declared.statement.LiteralBlock.{LiteralBlock}
use Rattle.go_syntax.specs.declared.types.Signature.{Signature as Sig}

-- the run of a function literal that stands in one of the trees
pub record IsLiteralRun (E : Env) (blocks : List LiteralBlock) (r : Enclosing) (s : Scopes) (ns : List Node) (v : Run) : Type 0 where
  pub at : Node
  pub among : In ns at
  pub literal : Expr
  pub signature : Sig
  pub body : BodyRange
  pub stands : Stands at (expression literal)
  pub is : out-Expr literal ≡ Expr-F.FuncLit signature body
  pub enters : EntersFunction E blocks r s signature body v
