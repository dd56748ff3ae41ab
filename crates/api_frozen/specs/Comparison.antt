-- What features lost and gained against frozen lines.
-- Public source: the comparison of Go's cmd/api with its files api/go1.txt, api/except.txt and later. Own: that a line is met
-- by the same line without the context behind its path, and that no other line is allowed to miss.
use Rattle.std.specs.Prelude.{ℕ, Bool, true, false, List, map}
use Rattle.std.specs.Ordering.{nat_cmp}
use Rattle.std.specs.Cmp.Lexicographic.{slice_cmp}
use Rattle.std.specs.List.Sorted.{IsStrictlySortedBy}
use Rattle.go_base.specs.Lists.{Has}
use Rattle.api_lines.specs.declared.line.Line.{Line}
use Rattle.api_lines.specs.Lines.{HasText}
use Rattle.api_frozen.specs.declared.signed.Signed.{Signed}
use Rattle.api_frozen.specs.LineShapes.{IsInContext}

-- a required line that no feature has, that isn't an exception, and that no feature has without its context
pub record IsLostLine (features : List Line) (required exceptions : List (List ℕ)) (text : List ℕ) : Type 0 where
  pub asked : Has required text
  pub missing : HasText features text → ⊥
  pub unexcepted : Has exceptions text → ⊥
  pub narrowed : (plain : List ℕ) → IsInContext text plain → HasText features plain → ⊥

-- the line of a feature that isn't required
pub record IsNew (features : List Line) (required : List (List ℕ)) (text : List ℕ) : Type 0 where
  pub feature : HasText features text
  pub unasked : Has required text → ⊥

abbrev pub IsSignedAs : List Line → List (List ℕ) → List (List ℕ) → Bool → List ℕ → Type 0
IsSignedAs features required exceptions true text = IsLostLine features required exceptions text
IsSignedAs features required exceptions false text = IsNew features required text

-- a lost or a new line
abbrev pub IsSigned : List Line → List (List ℕ) → List (List ℕ) → Signed → Type 0
IsSigned features required exceptions s = IsSignedAs features required exceptions s.lost s.line

-- exactly the lost and new lines, each once, in the order of bytes
pub record IsReport (features : List Line) (required exceptions : List (List ℕ)) (lines : List Signed) : Type 0 where
  pub sound : (s : Signed) → Has lines s → IsSigned features required exceptions s
  pub complete : (s : Signed) → IsSigned features required exceptions s → Has lines s
  pub ordered : IsStrictlySortedBy (slice_cmp nat_cmp) (map (λ s. s.line) lines)
