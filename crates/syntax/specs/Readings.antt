-- What a source is: whether it is tokens, and whether these are in the grammar.
-- Own: words of the contracts inside this program.
use Rattle.std.specs.Prelude.{ℕ, List}
use Rattle.go_syntax.specs.lexical.Lexemes.{IsBadOffset}
use Rattle.go_syntax.specs.grammar.SourceFiles.{HasOutline}
use Rattle.go_syntax.specs.lexical.Tokens.{IsTokens}
use Rattle.go_syntax.specs.declared.declaration.File.{File}
use Rattle.go_syntax.specs.declared.token.Token.{Token}
use Rattle.syntax.specs.declared.reading.Reading.{Reading}
use Rattle.syntax.specs.declared.reading.Reading.TheVariants.{Tree, BadToken, Syntax}

-- the tokens have this tree, or none
abbrev pub IsOutline : List Token → Reading → Type 0
IsOutline tokens (Tree file) = HasOutline tokens file
IsOutline tokens Syntax = (file : File) → HasOutline tokens file → ⊥
IsOutline tokens (BadToken place) = ⊥

-- the bytes are tokens that have this tree, or that have none, or aren't tokens from this place on
abbrev pub IsReading : List ℕ → Reading → Type 0
IsReading bytes (Tree file) = (tokens : List Token) × IsTokens bytes tokens × HasOutline tokens file
IsReading bytes Syntax = (tokens : List Token) × IsTokens bytes tokens × ((file : File) → HasOutline tokens file → ⊥)
IsReading bytes (BadToken place) = IsBadOffset bytes place
