-- What files ask of platforms, and the first platform that answers all of it alike.
use Rattle.std.specs.Prelude.{◌≡◌, ◌≤◌, ◌<◌, ◌&&◌, ◌==◌, ℕ, Bool, true, false, not, if◌then◌else◌, List, ◌++◌, map, length, get_or, Option, Some, None}
use Rattle.std.specs.List.{list_all}
use Rattle.go_base.specs.Lists.{Each}
use Rattle.go_file_choices.specs.AlikePlatforms.{platform_at}
use Rattle.go_file_choices.specs.declared.questions.Question.{Question}
use Rattle.go_model.specs.declared.files.build.Constraint.{Constraint}
use Rattle.go_model.specs.declared.files.build.Header.{Header}
use Rattle.go_model.specs.declared.files.platform.Platform.{Platform}
use Rattle.go_model.specs.declared.files.tree.TreeFile.{TreeFile}
use Rattle.go_model.specs.files.BuildValues.{is_chosen}
use Rattle.go_model.specs.files.Headers.{IsHeader}
use Rattle.go_model.specs.files.Platforms.{bits_of}

-- the expression of a file's header, where it has a header with one
pub record IsConstraintOf (bytes : List ℕ) (constraint : Option Constraint) : Type 0 where
  pub only : (header : Header) → IsHeader bytes header → header.constraint ≡ constraint
  pub there : (c : Constraint) → constraint ≡ Some c → (header : Header) × IsHeader bytes header × (header.constraint ≡ Some c)

abbrev pub file_of : Question → TreeFile
file_of question = question.file.now

abbrev pub IsAsked : Question → Type 0
IsAsked question = IsConstraintOf question.file.now.bytes question.constraint

-- the questions of files
pub record AreQuestions (files : List TreeFile) (questions : List Question) : Type 0 where
  pub same : map file_of questions ≡ files
  pub asked : Each IsAsked questions

-- those of further files were added
abbrev pub AsksAlso : List TreeFile → List Question → List Question → Type 0
AsksAlso files old new = (before : List TreeFile) → AreQuestions before old → AreQuestions (before ++ files) new

-- ---- answers

abbrev pub is_same : Bool → Bool → Bool
is_same a b = if a then b else not b

abbrev pub is_chosen_alike : Platform → Platform → List ℕ → Option Constraint → Bool
is_chosen_alike p q name None = true
is_chosen_alike p q name (Some c) = is_same (is_chosen p name (Some c)) (is_chosen q name (Some c))

abbrev pub is_answered_alike : Platform → Platform → Question → Bool
is_answered_alike p q question = is_same (is_chosen p question.file.now.name None) (is_chosen q question.file.now.name None) && is_chosen_alike p q question.file.now.name question.constraint

abbrev pub are_alike_by : List Question → Platform → Platform → Bool
are_alike_by questions p q = (bits_of p == bits_of q) && list_all (is_answered_alike p q) questions

-- the first platform that answers like the one of a number
pub record IsFirstBy (questions : List Question) (ps : List Platform) (i n : ℕ) : Type 0 where
  pub within : n ≤ i
  pub alike : are_alike_by questions (platform_at ps n) (platform_at ps i) ≡ true
  pub first : (m : ℕ) → m < n → are_alike_by questions (platform_at ps m) (platform_at ps i) ≡ false

pub record AreFirstsBy (questions : List Question) (ps : List Platform) (ns : List ℕ) : Type 0 where
  pub many : length ns ≡ length ps
  pub each : (i : ℕ) → i < length ps → IsFirstBy questions ps i (get_or ns i 0)
