-- The files of a client on a platform: those in the root of its tree that are chosen, each with its outline and the blocks of its functions, and with all of its imports; or the first refusal.
-- Public source: "Build constraints" of Go's package go/build; Go specification, "Source file organization", "Packages", "Import declarations" and "Function declarations". Own: the order of
-- refusals; that every import of a client is used.
use Rattle.std.specs.Prelude.{◌≡◌, ℕ, false, Option, Some, None, List, [], ◌∷◌, ◌++◌, map, bytes_eq, Result, Ok, Err}
use Rattle.std.specs.List.{filter}
use Rattle.go_base.specs.Lists.{Has}
use Rattle.go_client_files.specs.declared.parsed.ParsedFile.{ParsedFile}
use Rattle.go_client_files.specs.declared.uses.ClientFile.{ClientFile}
use Rattle.go_client_files.specs.declared.uses.ClientFiles.{ClientFiles}
use Rattle.go_file_blocks.specs.FileBlocks.{HasFileBlocks}
use Rattle.go_imports.specs.Gives.{Gives}
use Rattle.go_imports.specs.ImportPaths.{assumed_name}
use Rattle.go_imports.specs.PackageFiles.{HasC}
use Rattle.go_imports.specs.UsedImports.{named_as}
use Rattle.go_imports.specs.declared.used_imports.Import.{Import}
use Rattle.go_imports.specs.declared.used_imports.NamedImport.{NamedImport}
use Rattle.go_model.specs.declared.files.platform.Platform.{Platform}
use Rattle.go_model.specs.declared.files.tree.Tree.{Tree}
use Rattle.go_model.specs.declared.files.tree.TreeFile.{TreeFile}
use Rattle.go_model.specs.files.Headers.{HasBadExpression, HasTwoBuildLines, HasPlusAlone}
use Rattle.go_model.specs.types.Terms.{client_path}
use Rattle.go_reading.specs.ChosenFiles.{IsAllowed, IsChosen, IsLeftOut, path_of}
use Rattle.go_reading.specs.FilesByName.{by_name}
use Rattle.go_syntax.specs.declared.declaration.File.{File}
use Rattle.go_syntax.specs.declared.statement.LiteralBlock.{LiteralBlock}
use Rattle.go_syntax.specs.declared.token.Token.{Token}
use Rattle.go_syntax.specs.grammar.SourceFiles.{HasOutline}
use Rattle.go_syntax.specs.lexical.Lexemes.{IsBadOffset}
use Rattle.go_syntax.specs.lexical.Tokens.{IsTokens}
use Rattle.go_units.specs.PackageUses.{AreFree, GivesImport, IsFirstInternal}
use Rattle.go_units.specs.declared.folder.Folder.{Folder}
use Rattle.go_units.specs.declared.package_uses.PackageFile.{PackageFile}
use Rattle.go_units.specs.declared.reader.FileFault.{FileFault}
use Rattle.go_units.specs.declared.reader.FileFault.TheVariants as fault
use Rattle.go_units.specs.declared.unit_error.UnitError.{UnitError}
use Rattle.go_units.specs.declared.unit_error.UnitError.TheVariants as error

-- ---- what is read

-- the files that stand in no folder
abbrev pub root_files : List TreeFile → List TreeFile
root_files fs = filter (λ (f : TreeFile). bytes_eq f.folder []) fs

-- the files of a client: those in the root of its tree, by their names
abbrev pub client_files : Tree → List TreeFile
client_files tree = by_name (root_files tree.files)

-- the file as it is read, with the blocks of its functions and function literals
pub record IsParsed (file : TreeFile) (x : ParsedFile) : Type 0 where
  pub path : x.source.path ≡ path_of file
  pub tokens : List Token
  pub are : IsTokens file.bytes tokens
  pub outline : HasOutline tokens x.source.outline
  pub blocks : HasFileBlocks tokens x.source.outline x.blocks

-- the bytes have tokens, and those have no outline with blocks
abbrev pub IsNotParsed : List ℕ → Type 0
IsNotParsed bytes = (tokens : List Token) × IsTokens bytes tokens × ((f : File) (blocks : List LiteralBlock) → HasOutline tokens f → HasFileBlocks tokens f blocks → ⊥)

-- what a file that isn't refused gives
abbrev pub GivesParsed : Platform → TreeFile → Option ParsedFile → Type 0
GivesParsed p file None = IsLeftOut p file
GivesParsed p file (Some x) = IsChosen p file × IsParsed file x

-- the file is refused: its name is allowed, and its header has a fault; or it is chosen, and at an offset in it stands no token, or it has tokens and no outline with blocks
abbrev pub IsFaultyFile : Platform → TreeFile → FileFault → Type 0
IsFaultyFile p file fault.BadExpression = IsAllowed p file × HasBadExpression file.bytes
IsFaultyFile p file fault.Twice = IsAllowed p file × HasTwoBuildLines file.bytes
IsFaultyFile p file fault.PlusBuild = IsAllowed p file × HasPlusAlone file.bytes
IsFaultyFile p file (fault.BadToken offset) = IsChosen p file × IsBadOffset file.bytes offset
IsFaultyFile p file fault.Syntax = IsChosen p file × IsNotParsed file.bytes

-- the first file that is refused: those before it are read
pub record IsFirstFaulty (p : Platform) (files : List TreeFile) (at : List ℕ) (f : FileFault) : Type 0 where
  pub before : List TreeFile
  pub file : TreeFile
  pub after : List TreeFile
  pub parts : files ≡ before ++ file ∷ after
  pub earlier : List ParsedFile
  pub read : Gives (GivesParsed p) before earlier
  pub place : path_of file ≡ at
  pub refused : IsFaultyFile p file f

-- ---- its package

-- the files have one package name
abbrev pub AreOfOne : List ParsedFile → Type 0
AreOfOne xs = (x y : ParsedFile) → Has xs x → Has xs y → x.source.outline.«package».text ≡ y.source.outline.«package».text

-- the name of an import in its file: the one that it writes, else that of the package, else the assumed name of its path
abbrev pub name_by : Option (List ℕ) → Option (List ℕ) → List ℕ → List ℕ
name_by (Some written) package_name path = written
name_by None (Some name) path = name
name_by None None path = assumed_name path

abbrev pub name_in_file : Import → List ℕ
name_in_file i = name_by i.written i.package_name i.path

abbrev pub named_import : Import → NamedImport
named_import i = named_as (name_in_file i) i

abbrev pub GivesNamed : Import → Option NamedImport → Type 0
GivesNamed i None = ⊥
GivesNamed i (Some u) = u ≡ named_import i

module _ (module_path : List ℕ) (folders : List Folder) where
  -- all imports of a file. A client imports as a package of the module does
  pub record UsesAllIn (outline : File) (uses : List NamedImport) : Type 0 where
    pub all : List Import
    pub given : Gives (GivesImport module_path folders false) outline.imports all
    pub named : Gives GivesNamed all uses

  -- a file of the package, or none where the file imports `"C"`
  abbrev pub GivesClientFile : ParsedFile → Option ClientFile → Type 0
  GivesClientFile x None = HasC x.source.outline.imports
  GivesClientFile x (Some f) = (HasC x.source.outline.imports → ⊥) × (f.file.path ≡ x.source.path) × (f.file.outline ≡ x.source.outline) × (f.blocks ≡ x.blocks) × UsesAllIn x.source.outline f.file.uses

  -- the files of the package to which these belong, and the blocks of each
  pub record AreClientFiles (xs : List ParsedFile) (list : ClientFiles) : Type 0 where
    pub made : List ClientFile
    pub given : Gives GivesClientFile xs made
    pub files : list.files ≡ map (λ (f : ClientFile). f.file) made
    pub blocks : list.blocks ≡ map (λ (f : ClientFile). f.blocks) made

  -- ---- what is answered

  module _ (p : Platform) (tree : Tree) where
    -- the chosen files are read, and they are of one package
    pub record AreRead (xs : List ParsedFile) : Type 0 where
      pub given : Gives (GivesParsed p) (client_files tree) xs
      pub one : AreOfOne xs

    -- the files of the client's package, or the first refusal: of a file, of several package names, of an import that the client may not import; want of memory may come at any time
    abbrev pub ReadsClient : Result ClientFiles UnitError → Type 0
    ReadsClient (Ok list) = (xs : List ParsedFile) × AreRead xs × AreClientFiles xs list × AreFree client_path false list.files
    ReadsClient (Err (error.File at f)) = (client_path ≡ at.path) × IsFirstFaulty p (client_files tree) at.file f
    ReadsClient (Err (error.MixedNames path)) = (client_path ≡ path) × (xs : List ParsedFile) × Gives (GivesParsed p) (client_files tree) xs × (AreOfOne xs → ⊥)
    ReadsClient (Err (error.InternalUse at place)) = (client_path ≡ at.path) × (xs : List ParsedFile) × AreRead xs × (list : ClientFiles) × AreClientFiles xs list × IsFirstInternal client_path false list.files at.file place
    ReadsClient (Err (error.Cycle path)) = ⊥
    ReadsClient (Err error.NoMemory) = Unit {0}
