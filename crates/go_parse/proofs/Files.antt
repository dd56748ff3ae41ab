-- The laws of the reader of files: what it finds with nothing left is a source file, each source file is found
-- with nothing left, and so a list of terminals is at most one.
use Rattle.std.proofs.Common.{◌≡◌, ◌≢◌, ℕ, suc, List, [], Some, None, refl, sym, ap, ◌∙◌, subst}
use Rattle.go_syntax.specs.declared.declaration.File.{File}
use Rattle.go_syntax.specs.declared.body.BodyRange.{BodyRange}
use Rattle.go_syntax.specs.declared.token.Token.{Token}
use Rattle.go_syntax.specs.grammar.SourceFiles.{Skips, IsSourceFile, HasOutline}
use Rattle.go_syntax.specs.grammar.Symbols.{Rule}
use Rattle.go_syntax.specs.grammar.Terminals.{Terminal, terminals}
use Rattle.go_parse.specs.Declarations.{file}
use Rattle.go_cursor.specs.Reading.{Found, Reader}
use Rattle.go_descent.specs.Rules.{parts}
use Rattle.go_cursor.specs.Skipping.{skipped_body}
use Rattle.go_descent.proofs.Bodies.{skips_known, skips_sound, skips_read}
use Rattle.go_parse.proofs.CompleteDeclarations.{file_read}
use Rattle.go_descent.proofs.CompleteLevels.{complete_parts}
use Rattle.go_descent.proofs.CompleteParts.{KnownBodies}
use Rattle.go_parse.proofs.SoundDeclarations.{file_sound}
use Rattle.go_descent.proofs.SoundLevels.{parts_sound}
use Rattle.go_cursor.proofs.Steps.{Sound}

same_read : (p q : File × List Terminal) → ◌≡◌ {A = Found File} (Some p) (Some q) → p ≡ q
same_read p q e = cc

-- trees of a height of at most h, read by the readers of heights below n
module _ {Body : ℕ → Rule BodyRange} (known : KnownBodies Body) (body : ℕ → Reader BodyRange) (body_sound : (h : ℕ) → Sound (Body h) (body h))
    (body_read : (h : ℕ) (ts : List Terminal) (b : BodyRange) (rest : List Terminal) → Body h ts b rest → body h ts ≡ Some (b, rest)) (h n : ℕ) (above : n ≡ suc h) (ts : List Terminal) where
  pub found_file : (x : File) → file (parts body n) ts ≡ Some (x, []) → IsSourceFile Body h ts x
  found_file x e = file_sound Body h (parts body (suc h)) (parts_sound Body body body_sound (suc h)) ts x (subst (λ (m : ℕ). file (parts body m) ts ≡ Some (x, [])) above e)

  pub reads_file : (x : File) → IsSourceFile Body h ts x → file (parts body n) ts ≡ Some (x, [])
  reads_file x d = subst (λ (m : ℕ). file (parts body m) ts ≡ Some (x, [])) (sym above) (file_read known (complete_parts known body body_read (suc h)) d)

  pub one_file : (x y : File) → IsSourceFile Body h ts x → IsSourceFile Body h ts y → x ≡ y
  one_file x y d e = ap (λ q. q.0) (same_read (x, []) (y, []) (sym (reads_file x d) ∙ reads_file y e))

  pub none_read : file (parts body n) ts ≡ None → (x : File) → IsSourceFile Body h ts x → ⊥
  none_read none x d = let some = reads_file x d in absurd (cc)

  pub more_left : (y : File) (rest : List Terminal) → file (parts body n) ts ≡ Some (y, rest) → rest ≢ [] → (x : File) → IsSourceFile Body h ts x → ⊥
  more_left y rest some more x d = more (ap (λ q. q.1) (same_read (y, rest) (x, []) (sym some ∙ reads_file x d)))

-- the outline of a file, whose bodies are skipped
module _ (h n : ℕ) (above : n ≡ suc h) (ts : List Terminal) where
  pub found_outline : (x : File) → file (parts (λ _. skipped_body) n) ts ≡ Some (x, []) → IsSourceFile Skips h ts x
  found_outline = found_file skips_known (λ _. skipped_body) skips_sound skips_read h n above ts

  pub reads_outline : (x : File) → IsSourceFile Skips h ts x → file (parts (λ _. skipped_body) n) ts ≡ Some (x, [])
  reads_outline = reads_file skips_known (λ _. skipped_body) skips_sound skips_read h n above ts

  pub one_outline : (x y : File) → IsSourceFile Skips h ts x → IsSourceFile Skips h ts y → x ≡ y
  one_outline = one_file skips_known (λ _. skipped_body) skips_sound skips_read h n above ts

  pub no_outline : file (parts (λ _. skipped_body) n) ts ≡ None → (x : File) → IsSourceFile Skips h ts x → ⊥
  no_outline = none_read skips_known (λ _. skipped_body) skips_sound skips_read h n above ts

  pub more_than_outline : (y : File) (rest : List Terminal) → file (parts (λ _. skipped_body) n) ts ≡ Some (y, rest) → rest ≢ [] → (x : File) → IsSourceFile Skips h ts x → ⊥
  more_than_outline = more_left skips_known (λ _. skipped_body) skips_sound skips_read h n above ts

-- the same of the tokens of a file, at the height that it may have
pub has_outline : (tokens : List Token) (x : File) → file (parts (λ _. skipped_body) 257) (terminals tokens) ≡ Some (x, []) → HasOutline tokens x
has_outline tokens = found_outline 256 257 refl (terminals tokens)

pub outline_read : (tokens : List Token) (x : File) → HasOutline tokens x → file (parts (λ _. skipped_body) 257) (terminals tokens) ≡ Some (x, [])
outline_read tokens = reads_outline 256 257 refl (terminals tokens)
