-- What a store tells, and the causes of its answers.
-- Own: the edge to files and streams.
use Rattle.std.specs.Prelude.{◌≡◌, ◌≢◌, ◌≤◌, ◌<◌, ℕ, Option, Some, None, List, [], length, Result, Ok, Err}
use Rattle.std.specs.Ordering.{nat_cmp}
use Rattle.std.specs.Cmp.Lexicographic.{slice_cmp}
use Rattle.std.specs.FinMap.{FinMap, get}
use Rattle.go_base.specs.Lists.{Has, Once}
use Rattle.go_outside.specs.declared.files.Entry.{Entry}
use Rattle.go_outside.specs.declared.files.FilesError.{FilesError}
use Rattle.go_outside.specs.declared.files.FilesError.TheVariants.{Missing, TooLarge, Failed, NoMemory}
use Rattle.go_outside.specs.Faults.{Rose}
use Rattle.go_outside.specs.Paths.{Path, entry_of}

-- a finite map from paths to bytes
abbrev pub Contents : Type 0
Contents = FinMap (slice_cmp nat_cmp) (List ℕ)

abbrev pub IsTold : Contents → Path → Type 0
IsTold m path = get m path ≢ None

-- the direct entries of a folder, each once
pub record IsListing (stored : Path → Type 0) (folder : Path) (entries : List Entry) : Type 0 where
  pub sound : (e : Entry) → Has entries e → (p : Path) × stored p × (entry_of folder p ≡ Some e)
  pub complete : (p : Path) (e : Entry) → stored p → entry_of folder p ≡ Some e → Has entries e
  pub once : Once entries

-- what a listing may answer; the cases exclude each other, but for a fault and want of memory
abbrev pub AnswersList : Contents → Path → Result (List Entry) FilesError → Type 0
AnswersList m folder (Ok entries) = IsListing (IsTold m) folder entries × (entries ≢ [])
AnswersList m folder (Err Missing) = (p : Path) → IsTold m p → entry_of folder p ≡ None
AnswersList m folder (Err TooLarge) = ⊥
AnswersList m folder (Err Failed) = Unit {0}
AnswersList m folder (Err NoMemory) = Unit {0}

-- what a read may answer; the cases exclude each other, but for a fault and want of memory
abbrev pub AnswersRead : Option (List ℕ) → ℕ → Result (List ℕ) FilesError → Type 0
AnswersRead held limit (Ok text) = (held ≡ Some text) × (length text ≤ limit)
AnswersRead held limit (Err Missing) = held ≡ None
AnswersRead held limit (Err TooLarge) = (bytes : List ℕ) × (held ≡ Some bytes) × (limit < length bytes)
AnswersRead held limit (Err Failed) = Unit {0}
AnswersRead held limit (Err NoMemory) = Unit {0}

-- a fault comes only where the count rose, and the count never falls
abbrev pub FilesCause : {A : Type 0} → ℕ → ℕ → Result A FilesError → Type 0
FilesCause before now (Err Failed) = Rose before now
FilesCause before now _ = before ≤ now
