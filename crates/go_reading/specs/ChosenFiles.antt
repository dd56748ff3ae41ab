-- What a platform makes of a file of a tree: it leaves the file out or chooses it, or the file is refused.
-- Public source: "Build constraints" of Go's package go/build; the Go specification, "Package clause" and "Source file organization". Own: only the headers of files
-- whose names the platform allows are read; a file is refused for its header before it is for a token, and for a token before it is for its grammar.
use Rattle.std.specs.Prelude.{◌≡◌, ◌⊎◌, ℕ, true, false, Option, Some, None, List}
use Rattle.go_imports.specs.Outlines.{IsOutlineOf}
use Rattle.go_imports.specs.declared.package_files.SourceFile.{SourceFile}
use Rattle.go_load.specs.Names.{under}
use Rattle.go_model.specs.declared.files.build.Header.{Header}
use Rattle.go_model.specs.declared.files.platform.Platform.{Platform}
use Rattle.go_model.specs.declared.files.tree.TreeFile.{TreeFile}
use Rattle.go_model.specs.files.BuildValues.{is_chosen}
use Rattle.go_model.specs.files.Headers.{IsHeader, HasBadExpression, HasTwoBuildLines, HasPlusAlone}
use Rattle.go_reading.specs.Outlines.{IsNotInGrammar}
use Rattle.go_syntax.specs.lexical.Lexemes.{IsBadOffset}
use Rattle.go_units.specs.declared.reader.FileFault.{FileFault}
use Rattle.go_units.specs.declared.reader.FileFault.TheVariants as fault

-- the platform allows the file's name
abbrev pub IsAllowed : Platform → TreeFile → Type 0
IsAllowed p file = is_chosen p file.name None ≡ true

-- the file has this header, and the platform chooses it
pub record IsChosenBy (p : Platform) (file : TreeFile) (header : Header) : Type 0 where
  pub has : IsHeader file.bytes header
  pub chosen : is_chosen p file.name header.constraint ≡ true

abbrev pub IsChosen : Platform → TreeFile → Type 0
IsChosen p file = (header : Header) × IsChosenBy p file header

-- the platform doesn't allow the file's name, or the file has a header by which it isn't chosen
abbrev pub IsLeftOut : Platform → TreeFile → Type 0
IsLeftOut p file = (is_chosen p file.name None ≡ false) ⊎ ((header : Header) × IsHeader file.bytes header × (is_chosen p file.name header.constraint ≡ false))

-- the file is chosen, and its header says this name of its package
abbrev pub TellsName : Platform → TreeFile → List ℕ → Type 0
TellsName p file name = (header : Header) × IsChosenBy p file header × (header.clause ≡ Some name)

-- the file is refused: its name is allowed, and its header has a fault; or it is chosen, and at an offset in it stands no token, or it has tokens and no outline
abbrev pub IsFaulty : Platform → TreeFile → FileFault → Type 0
IsFaulty p file fault.BadExpression = IsAllowed p file × HasBadExpression file.bytes
IsFaulty p file fault.Twice = IsAllowed p file × HasTwoBuildLines file.bytes
IsFaulty p file fault.PlusBuild = IsAllowed p file × HasPlusAlone file.bytes
IsFaulty p file (fault.BadToken offset) = IsChosen p file × IsBadOffset file.bytes offset
IsFaulty p file fault.Syntax = IsChosen p file × IsNotInGrammar file.bytes

-- the path of a file below the root of its tree
abbrev pub path_of : TreeFile → List ℕ
path_of file = under file.folder file.name

-- the file as it is read
pub record IsSource (file : TreeFile) (s : SourceFile) : Type 0 where
  pub path : s.path ≡ path_of file
  pub outline : IsOutlineOf file.bytes s.outline

-- what a file that isn't refused gives
abbrev pub GivesSource : Platform → TreeFile → Option SourceFile → Type 0
GivesSource p file None = IsLeftOut p file
GivesSource p file (Some s) = IsChosen p file × IsSource file s
