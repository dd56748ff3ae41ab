-- Why a file has no tokens.
-- Own: the first offset at which no token stands.
use Rattle.std.specs.Prelude.{ℕ, List}
use Rattle.go_syntax.specs.lexical.Lexemes.{IsBadOffset}
use Rattle.go_lex.specs.declared.error.LexError.{LexError}
use Rattle.go_lex.specs.declared.error.LexError.TheVariants.{BadToken, NoMemory}

-- a bad token is at the one offset where the cut stops; want of memory is free
abbrev pub HasCause : List ℕ → LexError → Type 0
HasCause bytes (BadToken offset) = IsBadOffset bytes offset
HasCause bytes NoMemory = Unit {0}
