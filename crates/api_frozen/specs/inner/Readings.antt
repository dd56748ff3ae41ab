-- What the functions that read lines answer.
use Rattle.std.specs.Prelude.{◌≡◌, ◌≢◌, ◌<◌, ◌≤◌, ◌-◌, ℕ, Bool, true, false, List, [], ◌∷◌, ◌++◌, length, drop, slice_index, Option, None, Some, Result, Ok, Err}
use Rattle.std.specs.Char.{is_ascii_digit}
use denote.Ref.{Bor}
use Rattle.go_base.specs.Lists.{Each}
use Rattle.api_frozen.specs.declared.error.FrozenError.{FrozenError}
use Rattle.api_frozen.specs.declared.error.FrozenError.TheVariants as error
use Rattle.api_frozen.specs.declared.shapes.End.{End}
use Rattle.api_frozen.specs.declared.shapes.End.TheVariants as end
use Rattle.api_frozen.specs.declared.shapes.Reading.{Reading}
use Rattle.api_frozen.specs.declared.shapes.Reading.TheVariants as reading
use Rattle.api_frozen.specs.LineShapes.{ends_path, ends_context, IsWord, IsFeatureLine}
use Rattle.api_frozen.specs.FrozenFiles.{is_skipped, AreFrozen, IsCut, IsBad, IsFirstBad}

-- what ends a word
abbrev pub ends_of : End → ℕ → Bool
ends_of end.Path = ends_path
ends_of end.Context = ends_context

-- the bytes are at their end, or begin with one that ends a word
abbrev pub IsStopped : (ℕ → Bool) → List ℕ → Type 0
IsStopped ends [] = Unit {0}
IsStopped ends (b ∷ bytes) = ends b ≡ true

-- the bytes begin with a word
pub record IsSplit (ends : ℕ → Bool) (bytes word rest : List ℕ) : Type 0 where
  pub is : bytes ≡ word ++ rest
  pub word_is : IsWord ends word
  pub stopped : IsStopped ends rest

-- the bytes are a front and a rest
abbrev pub IsFollowed : List ℕ → List ℕ → List ℕ → Type 0
IsFollowed front bytes rest = (bytes ≡ front ++ rest) × (rest ≢ [])

abbrev pub context_of : Option (Bor (List ℕ)) → Option (List ℕ)
context_of None = None
context_of (Some context) = Some context.now

-- what a line is: skipped, a feature line, or neither
abbrev pub Reads : List ℕ → Reading → Type 0
Reads line reading.Skipped = is_skipped line ≡ true
Reads line (reading.Feature text) = (is_skipped line ≡ false) × IsCut line text.now × IsFeatureLine text.now
Reads line reading.Bad = IsBad line

-- the line is a front and the digits at its end, and the front doesn't end in one
pub record IsDigitsStart (line : List ℕ) (at : ℕ) : Type 0 where
  pub within : at ≤ length line
  pub digits : Each (λ b. is_ascii_digit b ≡ true) (drop at line)
  pub before : 0 < at → is_ascii_digit (slice_index line (at - 1)) ≡ false

-- what a line adds to the feature lines of those before it, where it isn't bad
abbrev pub AddsLine : List ℕ → List (List ℕ) → List (List ℕ) → Bool → Type 0
AddsLine line old new true = (before : List (List ℕ)) → AreFrozen before old → AreFrozen (before ++ line ∷ []) new
AddsLine line old new false = IsBad line

-- the feature lines of the lines of a file, or the first bad one
abbrev pub ReadsLines : List (List ℕ) → Result (List (List ℕ)) FrozenError → Type 0
ReadsLines lines (Ok texts) = AreFrozen lines texts
ReadsLines lines (Err (error.NotALine number)) = IsFirstBad lines number
ReadsLines lines (Err (error.NotUtf8 at)) = ⊥
ReadsLines lines (Err error.NoMemory) = Unit {0}
