-- What the files of a folder give on a platform: the chosen ones with their outlines, or the first one that is refused; and the name of their package.
-- Public source: Go specification, "Packages", "Package clause". Own: the files are read in their order, each to its end; the name is that of the first file that says one.
use Rattle.std.specs.Prelude.{◌≡◌, ◌⊎◌, ℕ, Option, Some, None, List, [], ◌∷◌, ◌++◌}
use Rattle.go_imports.specs.Gives.{Gives}
use Rattle.go_imports.specs.declared.package_files.SourceFile.{SourceFile}
use Rattle.go_model.specs.declared.files.platform.Platform.{Platform}
use Rattle.go_model.specs.declared.files.tree.TreeFile.{TreeFile}
use Rattle.go_reading.specs.ChosenFiles.{TellsName, IsFaulty, GivesSource, path_of}
use Rattle.go_units.specs.declared.reader.FileFault.{FileFault}
use Rattle.go_units.specs.declared.reader.Reading.{Reading}
use Rattle.go_units.specs.declared.reader.Reading.TheVariants as reading

-- files, by what each one gives, for what it is refused, and its path
module _ {A : Type 0} (GivesOf : A → Option SourceFile → Type 0) (IsRefusedFor : A → FileFault → Type 0) (path : A → List ℕ) where
  -- the first file that is refused: those before it are read
  pub record IsFirstRefused (files : List A) (at : List ℕ) (f : FileFault) : Type 0 where
    pub before : List A
    pub file : A
    pub after : List A
    pub parts : files ≡ before ++ file ∷ after
    pub earlier : List SourceFile
    pub read : Gives GivesOf before earlier
    pub place : path file ≡ at
    pub refused : IsRefusedFor file f

  abbrev pub IsReadingBy : List A → Reading → Type 0
  IsReadingBy files (reading.Files sources) = Gives GivesOf files sources
  IsReadingBy files (reading.Refused at f) = IsFirstRefused files at f

-- what the files of a folder give
abbrev pub IsReading : Platform → List TreeFile → Reading → Type 0
IsReading p files r = IsReadingBy (GivesSource p) (IsFaulty p) path_of files r

-- the name in the package clause of the first file that says one
abbrev pub IsPackageName : Platform → List TreeFile → Option (List ℕ) → Type 0
IsPackageName p [] said = said ≡ None
IsPackageName p (file ∷ files) said = ((name : List ℕ) × TellsName p file name × (said ≡ Some name)) ⊎ (((name : List ℕ) → TellsName p file name → ⊥) × IsPackageName p files said)
