-- The longest lexeme at the start of some bytes.
use Rattle.std.specs.Prelude.{◌≡◌, ◌<◌, ◌≤◌, ℕ, Some, List, length, take, drop}
use Rattle.go_syntax.specs.declared.token.LexemeKind.{LexemeKind}
use Rattle.go_syntax.specs.declared.token.LexemeKind.TheVariants as lexeme
use Rattle.go_syntax.specs.declared.token.TokenValue.{TokenValue}
use Rattle.go_syntax.specs.declared.token.TokenValue.TheVariants as value
use Rattle.go_syntax.specs.lexical.Lexemes.{IsLexeme, Lexeme, BeginsLongest, comment_kind}
use Rattle.go_base.specs.Comments.{comment_len}
use Rattle.go_lex.specs.declared.longest.LongestLexeme.{LongestLexeme}

-- what a lexeme of this kind and text says: white space and comments say nothing
abbrev pub Says : LexemeKind → List ℕ → TokenValue → Type 0
Says (lexeme.Token kind) text said = IsLexeme (lexeme.Token kind) said text
Says _ text said = said ≡ value.Nothing

-- a lexeme of this kind, value and text
abbrev pub lexeme_of : LexemeKind → TokenValue → List ℕ → Lexeme
lexeme_of kind said text = record { kind = kind; value = said; text = text }

-- the longest lexeme at the start has this kind and this many bytes
pub record IsLongestAt (bytes : List ℕ) (kind : LexemeKind) (len : ℕ) : Type 0 where
  pub some : 0 < len
  pub within : len ≤ length bytes
  pub says : (said : TokenValue) × Says kind (take len bytes) said
  pub longest : (said : TokenValue) → Says kind (take len bytes) said → BeginsLongest bytes (lexeme_of kind said (take len bytes)) (drop len bytes)

-- the comment at the start
pub record IsCommentAt (bytes : List ℕ) (prefix : LongestLexeme) : Type 0 where
  pub some : 0 < prefix.len
  pub within : prefix.len ≤ length bytes
  pub len_is : comment_len bytes ≡ Some prefix.len
  pub kind_is : prefix.kind ≡ comment_kind (take prefix.len bytes)
