-- Bytes that have no outline.
-- Public source: Go specification, "Source file organization", "Tokens".
use Rattle.std.specs.Prelude.{ℕ, List}
use Rattle.go_syntax.specs.declared.declaration.File.{File}
use Rattle.go_syntax.specs.declared.token.Token.{Token}
use Rattle.go_syntax.specs.grammar.SourceFiles.{HasOutline}
use Rattle.go_syntax.specs.lexical.Tokens.{IsTokens}

-- the bytes have tokens, and those have no outline
abbrev pub IsNotInGrammar : List ℕ → Type 0
IsNotInGrammar bytes = (tokens : List Token) × IsTokens bytes tokens × ((f : File) → HasOutline tokens f → ⊥)
