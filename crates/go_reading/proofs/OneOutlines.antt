-- What is an outline of bytes is their one outline, as bytes have one list of tokens and tokens have one outline.
use Rattle.std.proofs.Common.{◌≡◌, ℕ, List, subst}
use Rattle.go_imports.specs.Outlines.{IsOneOutlineOf, IsOutlineOf}
use Rattle.go_syntax.specs.declared.declaration.File.{File}
use Rattle.go_syntax.specs.declared.token.Token.{Token}
use Rattle.go_syntax.specs.grammar.SourceFiles.{HasOutline}
use Rattle.go_syntax.specs.lexical.Tokens.{IsTokens}

pub one_outline : ((bytes : List ℕ) (a b : List Token) → IsTokens bytes a → IsTokens bytes b → a ≡ b) → ((tokens : List Token) (f g : File) → HasOutline tokens f → HasOutline tokens g → f ≡ g)
    → (bytes : List ℕ) (f : File) → IsOutlineOf bytes f → IsOneOutlineOf bytes f
one_outline tokens tree bytes f h = record {
  has = h;
  one = λ g k. tree h.0 g f (subst (λ (ts : List Token). HasOutline ts g) (tokens bytes k.0 h.0 k.1 h.1) k.2) h.2;
}
