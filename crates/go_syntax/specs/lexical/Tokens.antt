-- The tokens of a Go source file. They are read off the cut of the file into lexemes.
-- Public source: Go specification, "Tokens" and "Semicolons".
-- In crate go_lex, proofs/ScanState.antt shows that the scanner gives these tokens.
use Rattle.std.specs.Prelude.{◌≡◌, ℕ, ◌+◌, ◌-◌, Bool, true, false, if◌then◌else◌, Option, Some, None, List, [], ◌∷◌, ◌++◌, length}
use Rattle.go_syntax.specs.declared.token.TokenKind.{TokenKind}
use Rattle.go_syntax.specs.declared.token.TokenKind.TheVariants.{Ident, IntLit, FloatLit, ImagLit, RuneLit, StrLit, BreakWord, ContinueWord, FallthroughWord, ReturnWord, Increment, Decrement, RightParen, RightBracket, RightBrace, Semicolon}
use Rattle.go_syntax.specs.declared.token.TokenValue.{TokenValue}
use Rattle.go_syntax.specs.declared.token.TokenValue.TheVariants as value
use Rattle.go_syntax.specs.declared.token.Token.{Token}
use Rattle.go_syntax.specs.declared.token.LexemeKind.{LexemeKind}
use Rattle.go_syntax.specs.declared.token.LexemeKind.TheVariants as lexeme
use Rattle.go_base.specs.Comments.{without_mark}
use Rattle.go_syntax.specs.lexical.Lexemes.{Lexeme, CutTo}

-- after a token of these kinds a newline ends a statement
abbrev pub ends_line : TokenKind → Bool
ends_line Ident = true
ends_line IntLit = true
ends_line FloatLit = true
ends_line ImagLit = true
ends_line RuneLit = true
ends_line StrLit = true
ends_line BreakWord = true
ends_line ContinueWord = true
ends_line FallthroughWord = true
ends_line ReturnWord = true
ends_line Increment = true
ends_line Decrement = true
ends_line RightParen = true
ends_line RightBracket = true
ends_line RightBrace = true
ends_line _ = false

-- the semicolon that a newline inserts: `pending` is the end of the line's last token, if that token
-- ends a line and no newline came after it
abbrev pub inserted : Option ℕ → List Token
inserted None = []
inserted (Some end) = record { kind = Semicolon; start = end; end = end; inserted = true; value = value.Nothing } ∷ []

-- the tokens that a lexeme of this kind, value and length gives
abbrev pub lexeme_tokens : LexemeKind → TokenValue → ℕ → ℕ → Option ℕ → List Token
lexeme_tokens lexeme.Blank said len start pending = []
lexeme_tokens lexeme.Newline said len start pending = inserted pending
lexeme_tokens (lexeme.Token kind) said len start pending = record { kind = kind; start = start; end = start + len; inserted = false; value = said } ∷ []

-- where a semicolon is wanted after a lexeme
abbrev pub pending_after : LexemeKind → ℕ → Option ℕ → Option ℕ
pending_after lexeme.Blank end pending = pending
pending_after lexeme.Newline end pending = None
pending_after (lexeme.Token kind) end pending = if ends_line kind then Some end else None

-- the tokens of the lexemes from an offset to the end of the file, which acts like a newline
abbrev pub tokens_of : ℕ → Option ℕ → List Lexeme → List Token
tokens_of start pending [] = inserted pending
tokens_of start pending (x ∷ xs) =
    lexeme_tokens x.kind x.value (length x.text) start pending ++ tokens_of (start + length x.text) (pending_after x.kind (start + length x.text) pending) xs

-- the tokens of a file: those of its cut behind a byte order mark at its start
pub record IsTokens (bytes : List ℕ) (tokens : List Token) : Type 0 where
  pub lexemes : List Lexeme
  pub cut : CutTo (without_mark bytes) lexemes []
  pub tokens_are : tokens ≡ tokens_of (length bytes - length (without_mark bytes)) None lexemes
