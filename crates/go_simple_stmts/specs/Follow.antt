-- What must not follow a simple statement for its reader to end there: what a longer one would go on with.
-- Own: how the parser reads what the grammar derives.
use Rattle.std.specs.Prelude.{◌≡◌, Bool, false, List, None}
use Rattle.go_descent.specs.Follow.{OverExpr}
use Rattle.go_descent.specs.Rules.{operator_at}
use Rattle.go_syntax.specs.declared.token.TokenKind.TheVariants as kind
use Rattle.go_syntax.specs.grammar.Statements.{assign_operator, step_operator}
use Rattle.go_syntax.specs.grammar.Symbols.{begins, sign_at}
use Rattle.go_syntax.specs.grammar.Terminals.{Terminal}

pub record OverSimple (b : Bool) (rest : List Terminal) : Type 0 where
  pub expr : OverExpr b rest
  pub comma : begins kind.Comma rest ≡ false
  pub arrow : begins kind.Arrow rest ≡ false
  pub assign : begins kind.Assign rest ≡ false
  pub define : begins kind.Define rest ≡ false
  pub step : operator_at step_operator (sign_at rest) ≡ None
  pub operation : operator_at assign_operator (sign_at rest) ≡ None
