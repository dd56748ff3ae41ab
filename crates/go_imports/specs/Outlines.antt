-- The outline of a file's bytes: the syntax tree of their tokens, bodies skipped.
-- Public source: Go specification, "Source file organization", "Tokens".
use Rattle.std.specs.Prelude.{◌≡◌, ℕ, List}
use Rattle.go_references.specs.go_syntax.declared.declaration.File.{File}
use Rattle.go_references.specs.go_syntax.declared.token.Token.{Token}
use Rattle.go_references.specs.go_syntax.grammar.SourceFiles.{HasOutline}
use Rattle.go_references.specs.go_syntax.lexical.Tokens.{IsTokens}

-- the bytes have tokens, whose outline this is
abbrev pub IsOutlineOf : List ℕ → File → Type 0
IsOutlineOf bytes f = (tokens : List Token) × IsTokens bytes tokens × HasOutline tokens f

-- this is the one outline of the bytes
pub record IsOneOutlineOf (bytes : List ℕ) (f : File) : Type 0 where
  pub has : IsOutlineOf bytes f
  pub one : (g : File) → IsOutlineOf bytes g → g ≡ f
