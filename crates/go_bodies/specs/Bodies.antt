-- The parsed body of tokens.
-- Public source: Go specification, "Function declarations", "Function literals" and "Blocks"; the form is own.
use Rattle.std.specs.Prelude.{◌≡◌, true, List}
use Rattle.go_bodies.specs.Braces.{rises}
use Rattle.go_syntax.specs.declared.statement.ParsedBody.{ParsedBody}
use Rattle.go_syntax.specs.declared.token.Token.{Token}
use Rattle.go_syntax.specs.grammar.ParsedBodies.{IsParsedBody}
use Rattle.go_syntax.specs.grammar.Terminals.{terminals}

-- the tokens are this body, of a height of at most 256. The block of a function literal is found by the offset of its `{`, so those
-- offsets have to rise
pub record HasBody (tokens : List Token) (body : ParsedBody) : Type 0 where
  pub rising : rises 0 (terminals tokens) ≡ true
  pub parsed : IsParsedBody (terminals tokens) body
