-- What must not follow an expression for its reader to end there: what a longer one would go on with.
-- Own: how the parser reads what the grammar derives.
use Rattle.std.specs.Prelude.{◌≡◌, Bool, true, false, if◌then◌else◌, List, None}
use Rattle.go_syntax.specs.declared.token.TokenKind.TheVariants as kind
use Rattle.go_syntax.specs.grammar.Grammar.{comparison, sum_operator, product_operator}
use Rattle.go_syntax.specs.grammar.Symbols.{begins, sign_at}
use Rattle.go_syntax.specs.grammar.Terminals.{Terminal}
use Rattle.go_cursor.specs.LookAheads.{begins_type_switch}
use Rattle.go_descent.specs.Rules.{operator_at}

-- whether a post is next
abbrev pub begins_post : List Terminal → Bool
begins_post ts = if begins kind.LeftParen ts then true else if begins kind.LeftBracket ts then true else if begins_type_switch ts then false else begins kind.Period ts

-- nothing follows with which an operand, a product, a sum, .. would go on; where a type's name may begin a
-- composite literal, no `{` either

pub record Over (b : Bool) (rest : List Terminal) : Type 0 where
  pub post : begins_post rest ≡ false
  pub brace : b ≡ true → begins kind.LeftBrace rest ≡ false

pub record OverProduct (b : Bool) (rest : List Terminal) : Type 0 where
  pub operand : Over b rest
  pub operator : operator_at product_operator (sign_at rest) ≡ None

pub record OverSum (b : Bool) (rest : List Terminal) : Type 0 where
  pub product : OverProduct b rest
  pub operator : operator_at sum_operator (sign_at rest) ≡ None

pub record OverCompare (b : Bool) (rest : List Terminal) : Type 0 where
  pub sum : OverSum b rest
  pub operator : operator_at comparison (sign_at rest) ≡ None

pub record OverAnd (b : Bool) (rest : List Terminal) : Type 0 where
  pub comparing : OverCompare b rest
  pub operator : begins kind.LogicalAnd rest ≡ false

pub record OverExpr (b : Bool) (rest : List Terminal) : Type 0 where
  pub conjunct : OverAnd b rest
  pub operator : begins kind.LogicalOr rest ≡ false
