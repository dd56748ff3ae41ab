-- The text of a feature line, and lists of lines in the order of their texts.
-- Public source: the lines that Go's cmd/api writes to its files api/go1.txt and later.
use Rattle.std.specs.Prelude.{◌≡◌, ◌⊎◌, ℕ, List, [], ◌++◌, codes, map, Option, Some, None}
use Rattle.std.specs.Ordering.{nat_cmp}
use Rattle.std.specs.Cmp.Lexicographic.{slice_cmp}
use Rattle.std.specs.List.Sorted.{IsStrictlySortedBy}
use Rattle.go_base.specs.Lists.{Has}
use Rattle.go_model.specs.files.Platforms.{name_of}
use Rattle.go_model.specs.declared.files.platform.Platform.{Platform}
use Rattle.api_lines.specs.declared.line.Line.{Line}

-- the platform of a line, where it has one
abbrev pub context_text : Option Platform → List ℕ
context_text None = []
context_text (Some platform) = codes " (" ++ name_of platform ++ codes ")"

-- the text of a line
abbrev pub printed : Line → List ℕ
printed l = codes "pkg " ++ l.path ++ context_text l.context ++ codes ", " ++ l.rest

-- the line in a context, or in none
abbrev pub in_context : Option Platform → Line → Line
in_context context l = record { path = l.path; context = context; rest = l.rest }

-- one of the lines has the text
abbrev pub HasText : List Line → List ℕ → Type 0
HasText lines text = (l : Line) × Has lines l × (printed l ≡ text)

-- a line of the list whose package has one of these paths
abbrev pub IsLineAt : List (List ℕ) → List Line → Line → Type 0
IsLineAt paths lines l = Has lines l × Has paths l.path

-- a line of one list or the other
abbrev pub IsOfEither : List Line → List Line → Line → Type 0
IsOfEither first second l = Has first l ⊎ Has second l

-- each text comes before those of the lines that follow it, in the order of bytes
abbrev pub AreInOrder : List Line → Type 0
AreInOrder lines = IsStrictlySortedBy (slice_cmp nat_cmp) (map printed lines)

-- exactly the texts of the lines with the property, each once, in the order of bytes
pub record IsListing (P : Line → Type 0) (lines : List Line) : Type 0 where
  pub sound : (l : Line) → Has lines l → P l
  pub complete : (l : Line) → P l → HasText lines (printed l)
  pub ordered : AreInOrder lines
