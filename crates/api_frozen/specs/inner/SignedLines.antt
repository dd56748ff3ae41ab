-- What the functions that compare lines answer.
use Rattle.std.specs.Prelude.{◌≡◌, ℕ, List, map, true, false, Option, None, Some}
use Rattle.std.specs.Ordering.{nat_cmp}
use Rattle.std.specs.Cmp.Lexicographic.{slice_cmp}
use Rattle.std.specs.List.Sorted.{IsStrictlySortedBy}
use Rattle.go_base.specs.Lists.{Has}
use Rattle.api_lines.specs.declared.line.Line.{Line}
use Rattle.api_lines.specs.Lines.{printed}
use Rattle.api_frozen.specs.declared.signed.Signed.{Signed}
use Rattle.api_frozen.specs.LineShapes.{IsInContext}

-- no line but the old ones, one of each text, and the texts in order
pub record ArrangesLines (old new : List Signed) : Type 0 where
  pub sound : (s : Signed) → Has new s → Has old s
  pub complete : (s : Signed) → Has old s → (q : Signed) × Has new q × (s.line ≡ q.line)
  pub ordered : IsStrictlySortedBy (slice_cmp nat_cmp) (map (λ s. s.line) new)

-- the line without its context, or none where it is no feature line in one
abbrev pub Drops : List ℕ → Option (List ℕ) → Type 0
Drops text None = (plain : List ℕ) → IsInContext text plain → ⊥
Drops text (Some plain) = IsInContext text plain

-- a text that is neither held nor an exception, and isn't held without its context
pub record IsMissing (held exceptions : List (List ℕ)) (text : List ℕ) : Type 0 where
  pub missing : Has held text → ⊥
  pub unexcepted : Has exceptions text → ⊥
  pub narrowed : (plain : List ℕ) → IsInContext text plain → Has held plain → ⊥

-- the loss of a required line, where it is missing
abbrev pub IsLoss : List (List ℕ) → List (List ℕ) → List ℕ → Signed → Type 0
IsLoss held exceptions text s = IsMissing held exceptions text × (record { lost = true; line = text } ≡ s)

abbrev pub IsLossOf : List (List ℕ) → List (List ℕ) → List (List ℕ) → Signed → Type 0
IsLossOf held exceptions required s = (text : List ℕ) × Has required text × IsLoss held exceptions text s

-- the gain of a feature that isn't required
abbrev pub IsGain : List (List ℕ) → Line → Signed → Type 0
IsGain required l s = (Has required (printed l) → ⊥) × (record { lost = false; line = printed l } ≡ s)

abbrev pub IsGainOf : List (List ℕ) → List Line → Signed → Type 0
IsGainOf required features s = (l : Line) × Has features l × IsGain required l s
