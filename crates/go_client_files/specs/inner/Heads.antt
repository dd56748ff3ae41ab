-- What files of a client give that have these heads.
use Rattle.std.specs.Prelude.{◌≡◌, ℕ, Option, Some, None, List, ◌∷◌, ◌++◌}
use Rattle.go_client_files.specs.ClientFiles.{IsParsed}
use Rattle.go_client_files.specs.declared.parsed.ParsedFile.{ParsedFile}
use Rattle.go_client_files.specs.declared.reading.ClientReading.{ClientReading}
use Rattle.go_client_files.specs.declared.reading.ClientReading.TheVariants as reading
use Rattle.go_client_files.specs.inner.Causes.{HasBadText}
use Rattle.go_imports.specs.Gives.{Gives}
use Rattle.go_model.specs.declared.files.tree.TreeFile.{TreeFile}
use Rattle.go_reading.specs.declared.heads.Head.{Head}
use Rattle.go_reading.specs.declared.heads.Head.TheVariants as head
use Rattle.go_reading.specs.declared.heads.HeadedFile.{HeadedFile}
use Rattle.go_reading.specs.inner.Heads.{headed_path}
use Rattle.go_units.specs.declared.reader.FileFault.{FileFault}

abbrev pub IsSomeParsed : TreeFile → Option ParsedFile → Type 0
IsSomeParsed file None = ⊥
IsSomeParsed file (Some x) = IsParsed file x

-- what a file gives that has this head
abbrev pub GivesAs : Head → TreeFile → Option ParsedFile → Type 0
GivesAs head.LeftOut file None = Unit {0}
GivesAs head.LeftOut file (Some x) = ⊥
GivesAs (head.Chosen clause) file r = IsSomeParsed file r
GivesAs (head.Refused f) file r = ⊥

abbrev pub GivesHeaded : HeadedFile → Option ParsedFile → Type 0
GivesHeaded h r = GivesAs h.head h.file.now r

-- for what it is refused
abbrev pub IsRefusedAs : Head → TreeFile → FileFault → Type 0
IsRefusedAs head.LeftOut file f = ⊥
IsRefusedAs (head.Chosen clause) file f = HasBadText file.bytes f
IsRefusedAs (head.Refused g) file f = g ≡ f

abbrev pub IsRefusedHeaded : HeadedFile → FileFault → Type 0
IsRefusedHeaded h f = IsRefusedAs h.head h.file.now f

-- the refusal of a file
abbrev pub IsRefusalOf : HeadedFile → ClientReading → Type 0
IsRefusalOf h (reading.Files xs) = ⊥
IsRefusalOf h (reading.Refused at f) = (headed_path h ≡ at) × IsRefusedHeaded h f

-- the first file that is refused: those before it are read
pub record IsFirstRefused (hs : List HeadedFile) (at : List ℕ) (f : FileFault) : Type 0 where
  pub before : List HeadedFile
  pub file : HeadedFile
  pub after : List HeadedFile
  pub parts : hs ≡ before ++ file ∷ after
  pub earlier : List ParsedFile
  pub read : Gives GivesHeaded before earlier
  pub place : headed_path file ≡ at
  pub refused : IsRefusedHeaded file f

-- what the files give
abbrev pub IsHeadedReading : List HeadedFile → ClientReading → Type 0
IsHeadedReading hs (reading.Files xs) = Gives GivesHeaded hs xs
IsHeadedReading hs (reading.Refused at f) = IsFirstRefused hs at f
