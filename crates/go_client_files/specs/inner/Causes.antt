-- Why a file of a client gives nothing.
use Rattle.std.specs.Prelude.{ℕ, List}
use Rattle.go_client_files.specs.ClientFiles.{IsNotParsed}
use Rattle.go_client_files.specs.declared.parsed.FileError.{FileError}
use Rattle.go_client_files.specs.declared.parsed.FileError.TheVariants as error
use Rattle.go_client_files.specs.declared.parsed.ParsedFile.{ParsedFile}
use Rattle.go_file_blocks.specs.FileBlocks.{HasFileBlocks}
use Rattle.go_syntax.specs.declared.declaration.File.{File}
use Rattle.go_syntax.specs.declared.statement.LiteralBlock.{LiteralBlock}
use Rattle.go_syntax.specs.declared.token.Token.{Token}
use Rattle.go_syntax.specs.grammar.SourceFiles.{HasOutline}
use Rattle.go_syntax.specs.lexical.Lexemes.{IsBadOffset}
use Rattle.go_units.specs.declared.reader.FileFault.{FileFault}
use Rattle.go_units.specs.declared.reader.FileFault.TheVariants as fault

-- bytes have a fault behind their header
abbrev pub HasBadText : List ℕ → FileFault → Type 0
HasBadText bytes fault.BadExpression = ⊥
HasBadText bytes fault.Twice = ⊥
HasBadText bytes fault.PlusBuild = ⊥
HasBadText bytes (fault.BadToken offset) = IsBadOffset bytes offset
HasBadText bytes fault.Syntax = IsNotParsed bytes

-- tokens have no outline with blocks
abbrev pub HasBadTokens : List Token → FileFault → Type 0
HasBadTokens tokens fault.BadExpression = ⊥
HasBadTokens tokens fault.Twice = ⊥
HasBadTokens tokens fault.PlusBuild = ⊥
HasBadTokens tokens (fault.BadToken offset) = ⊥
HasBadTokens tokens fault.Syntax = (f : File) (blocks : List LiteralBlock) → HasOutline tokens f → HasFileBlocks tokens f blocks → ⊥

-- an outline has no blocks
abbrev pub HasNoBlocks : List Token → File → FileFault → Type 0
HasNoBlocks tokens f fault.BadExpression = ⊥
HasNoBlocks tokens f fault.Twice = ⊥
HasNoBlocks tokens f fault.PlusBuild = ⊥
HasNoBlocks tokens f (fault.BadToken offset) = ⊥
HasNoBlocks tokens f fault.Syntax = (blocks : List LiteralBlock) → HasFileBlocks tokens f blocks → ⊥

-- a fault of this kind, or want of memory, which may come at any time
abbrev pub Causes : (FileFault → Type 0) → FileError → Type 0
Causes P (error.Faulty f) = P f
Causes P error.NoMemory = Unit {0}

-- the tokens have this outline and these blocks
pub record IsParsedOf (tokens : List Token) (x : ParsedFile) : Type 0 where
  pub outline : HasOutline tokens x.source.outline
  pub blocks : HasFileBlocks tokens x.source.outline x.blocks
