-- The header of a Go file: the white space and comments in front, the build lines among them, and the package clause
-- behind them.
-- Public source: Go specification, "Comments", "Tokens" and "Package clause"; "Build constraints" of Go's package
-- go/build. Beyond Go, comments are UTF-8 without NUL, and a header ends before any other comment.
-- In crate go_tags, the function one_header of src/laws.rt says that a file has one header or one
-- cause, and the function header finds it.
use Rattle.std.specs.Prelude.{◌≡◌, ◌≢◌, ◌≤◌, ℕ, Bool, true, false, ◌||◌, ◌&&◌, if◌then◌else◌, Option, None, Some, List, [], ◌∷◌, ◌++◌, length, drop, codes, bytes_eq}
use Rattle.std.specs.List.{prefix_len, list_any}
use Rattle.go_base.specs.Characters.{is_letter, is_name_character, BeginsPassing, IsRun}
use Rattle.go_base.specs.Comments.{is_blank, starts_with, IsFront, without_mark}
use Rattle.go_base.specs.Keywords.{keywords}
use Rattle.go_model.specs.files.BuildTags.{is_one_of}
use Rattle.go_model.specs.files.BuildConstraints.{IsExpression}
use Rattle.go_model.specs.declared.files.build.Constraint.{Constraint}
use Rattle.go_model.specs.declared.files.build.Header.{Header}

-- a line still has only spaces and tabs, after this piece
abbrev pub is_open_after : Bool → List ℕ → Bool
is_open_after is_open piece = bytes_eq piece (10 ∷ []) || (is_open && (bytes_eq piece (32 ∷ []) || bytes_eq piece (9 ∷ [])))

-- the piece, where it is a line comment that begins its line but for spaces and tabs
abbrev pub opening_comment : Bool → List ℕ → List (List ℕ)
opening_comment is_open piece = if is_open && starts_with (codes "//") piece then piece ∷ [] else []

-- the line comments that begin their line but for spaces and tabs; the flag is about the line so far
abbrev pub opening_comments : Bool → List (List ℕ) → List (List ℕ)
opening_comments is_open [] = []
opening_comments is_open (piece ∷ pieces) = opening_comment is_open piece ++ opening_comments (is_open_after is_open piece) pieces

-- a word ends here: a blank or the end of the line follows
abbrev pub ends_word : List ℕ → Bool
ends_word [] = true
ends_word (b ∷ bs) = is_blank b

-- what follows the word, where the text begins with it
unfoldable pub after_word : List ℕ → List ℕ → Option (List ℕ)
after_word word text = if starts_with word text && ends_word (drop (length word) text) then Some (drop (length word) text) else None

-- the rest of a build line
abbrev pub build_text : List ℕ → Option (List ℕ)
build_text comment = after_word (codes "//go:build") comment

-- the text without blanks in front
abbrev pub without_blanks : List ℕ → List ℕ
without_blanks text = drop (prefix_len is_blank text) text

-- there is a text
abbrev pub is_some_text : Option (List ℕ) → Bool
is_some_text None = false
is_some_text (Some text) = true

-- a line comment of the older form
abbrev pub is_plus_line : List ℕ → Bool
is_plus_line comment = is_some_text (after_word (codes "+build") (without_blanks (drop 2 comment)))

-- the text as a list of one, or no text
abbrev pub as_list : Option (List ℕ) → List (List ℕ)
as_list None = []
as_list (Some text) = text ∷ []

-- the rests of the build lines among the comments
abbrev pub build_texts : List (List ℕ) → List (List ℕ)
build_texts [] = []
build_texts (comment ∷ comments) = as_list (build_text comment) ++ build_texts comments

-- some comment is of the older form
abbrev pub has_plus_line : List (List ℕ) → Bool
has_plus_line comments = list_any is_plus_line comments

-- a name that a package may have: an identifier, which no keyword is, and not the blank one
pub record IsPackageName (name : List ℕ) : Type 0 where
  pub letter : BeginsPassing is_letter name
  pub word : is_one_of keywords name ≡ false
  pub named : name ≢ codes "_"

-- the bytes begin with a package clause of this name: the word, white space and comments, and the whole name
pub record BeginsClause (bytes name : List ℕ) : Type 0 where
  pub behind : List ℕ
  pub pieces : List (List ℕ)
  pub rest : List ℕ
  pub keyword : bytes ≡ codes "package" ++ behind
  pub apart : BeginsPassing is_name_character behind → ⊥
  pub front : IsFront behind pieces (name ++ rest)
  pub run : IsRun is_name_character name rest
  pub is_name : IsPackageName name

-- the clause's name, or none where there is no clause
abbrev pub IsClause : List ℕ → Option (List ℕ) → Type 0
IsClause bytes None = (name : List ℕ) → BeginsClause bytes name → ⊥
IsClause bytes (Some name) = BeginsClause bytes name

-- the header of the bytes: the comments that begin their line, and what follows the header
pub record HasHeader (bytes : List ℕ) (comments : List (List ℕ)) (rest : List ℕ) : Type 0 where
  pub pieces : List (List ℕ)
  pub front : IsFront (without_mark bytes) pieces rest
  pub opening : comments ≡ opening_comments true pieces

-- the constraint of a header, from the rests of its build lines: none, where there is no plus line either, or that of the one
abbrev pub IsConstraint : List (List ℕ) → Bool → Option Constraint → Type 0
IsConstraint [] has_plus None = has_plus ≡ false
IsConstraint (text ∷ []) has_plus (Some constraint) = IsExpression text constraint
IsConstraint _ has_plus _ = ⊥

-- the header that the bytes have
abbrev pub IsHeader : List ℕ → Header → Type 0
IsHeader bytes header =
    (comments : List (List ℕ)) × (rest : List ℕ) × HasHeader bytes comments rest
    × IsConstraint (build_texts comments) (has_plus_line comments) header.constraint × IsClause rest header.clause

-- there are two build lines or more
abbrev pub HasTwoBuildLines : List ℕ → Type 0
HasTwoBuildLines bytes = (comments : List (List ℕ)) × (rest : List ℕ) × HasHeader bytes comments rest × (2 ≤ length (build_texts comments))

-- there is one build line, and its rest is no expression
abbrev pub HasBadExpression : List ℕ → Type 0
HasBadExpression bytes =
    (comments : List (List ℕ)) × (rest : List ℕ) × HasHeader bytes comments rest
    × (text : List ℕ) × (build_texts comments ≡ text ∷ []) × ((constraint : Constraint) → IsExpression text constraint → ⊥)

-- there is a plus line and no build line
abbrev pub HasPlusAlone : List ℕ → Type 0
HasPlusAlone bytes =
    (comments : List (List ℕ)) × (rest : List ℕ) × HasHeader bytes comments rest × (build_texts comments ≡ []) × (has_plus_line comments ≡ true)
