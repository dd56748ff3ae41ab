-- Files of frozen feature lines.
-- Public source: Go's files api/go1.txt, api/except.txt and later, as cmd/api reads them; own where a line is refused.
use Rattle.std.specs.Prelude.{◌≡◌, ◌≢◌, ◌⊎◌, ◌+◌, ℕ, Bool, true, false, ◌||◌, List, [], ◌∷◌, ◌++◌, length, codes, IsUtf8}
use Rattle.std.specs.Char.{is_ascii_digit}
use Rattle.std.specs.List.{list_all}
use Rattle.std.specs.Str.{IsValidUpTo}
use Rattle.std.specs.Str.Lines.{lines}
use Rattle.go_base.specs.Comments.{is_blank, starts_with}
use Rattle.go_base.specs.Lists.{Each}
use Rattle.api_frozen.specs.declared.error.FrozenError.{FrozenError}
use Rattle.api_frozen.specs.declared.error.FrozenError.TheVariants as error
use Rattle.api_frozen.specs.LineShapes.{IsFeatureLine}

-- a line that is skipped: it begins with `#`, or has blanks alone
abbrev pub is_skipped : List ℕ → Bool
is_skipped line = starts_with (codes "#") line || list_all is_blank line

-- the line ends in ` #` and digits, the number of an issue
abbrev pub EndsInIssue : List ℕ → List ℕ → Type 0
EndsInIssue line front = (digits : List ℕ) × (digits ≢ []) × Each (λ b. is_ascii_digit b ≡ true) digits × (line ≡ front ++ (codes " #" ++ digits))

-- the line without the number of an issue at its end
abbrev pub IsCut : List ℕ → List ℕ → Type 0
IsCut line text = EndsInIssue line text ⊎ (((front : List ℕ) → EndsInIssue line front → ⊥) × (text ≡ line))

-- the feature lines that the lines of a file give
pub data AreFrozen : List (List ℕ) → List (List ℕ) → Type 0 where
  frozen_none : AreFrozen [] []
  frozen_skipped : {line : List ℕ} {lines texts : List (List ℕ)} → is_skipped line ≡ true → AreFrozen lines texts → AreFrozen (line ∷ lines) texts
  frozen_line : {line text : List ℕ} {lines texts : List (List ℕ)} → is_skipped line ≡ false → IsCut line text → IsFeatureLine text → AreFrozen lines texts → AreFrozen (line ∷ lines) (text ∷ texts)

-- the line is neither skipped nor a feature line
pub record IsBad (line : List ℕ) : Type 0 where
  pub counts : is_skipped line ≡ false
  pub other : (text : List ℕ) → IsCut line text → IsFeatureLine text → ⊥

-- the number, from 1, of the first such line
abbrev pub IsFirstBad : List (List ℕ) → ℕ → Type 0
IsFirstBad lines number = (before : List (List ℕ)) × (line : List ℕ) × (after texts : List (List ℕ)) × (lines ≡ before ++ line ∷ after) × AreFrozen before texts × IsBad line × (number ≡ length before + 1)

-- bytes that are UTF-8, whose lines give these feature lines
pub record IsFrozenFile (bytes : List ℕ) (texts : List (List ℕ)) : Type 0 where
  pub utf8 : IsUtf8 bytes
  pub frozen : AreFrozen (lines bytes) texts

-- why bytes are no such file
abbrev pub HasCause : List ℕ → FrozenError → Type 0
HasCause bytes (error.NotUtf8 at) = IsValidUpTo bytes at
HasCause bytes (error.NotALine number) = IsUtf8 bytes × IsFirstBad (lines bytes) number
HasCause bytes error.NoMemory = Unit {0}
