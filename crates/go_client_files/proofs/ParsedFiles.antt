-- Why tokens have no outline with blocks.
use Rattle.std.proofs.Common.{◌≡◌, ◌∙◌, ℕ, List, Result, Ok, Err, subst}
use Rattle.std.specs.Prelude.{IfOk}
use Rattle.go_client_files.specs.ClientFiles.{IsParsed}
use Rattle.go_client_files.specs.declared.parsed.ParsedFile.{ParsedFile}
use Rattle.go_client_files.specs.inner.Causes.{Causes, HasBadTokens, HasBadText, HasNoBlocks, IsParsedOf}
use Rattle.go_client_files.specs.declared.parsed.FileError.{FileError}
use Rattle.go_client_files.specs.declared.parsed.FileError.TheVariants as error
use Rattle.go_file_blocks.specs.FileBlocks.{HasFileBlocks}
use Rattle.go_model.specs.declared.files.tree.TreeFile.{TreeFile}
use Rattle.go_reading.specs.ChosenFiles.{path_of}
use Rattle.go_syntax.specs.declared.declaration.File.{File}
use Rattle.go_syntax.specs.declared.statement.LiteralBlock.{LiteralBlock}
use Rattle.go_syntax.specs.declared.token.Token.{Token}
use Rattle.go_syntax.specs.grammar.SourceFiles.{HasOutline}
use Rattle.go_syntax.specs.lexical.Tokens.{IsTokens}
use Rattle.go_units.specs.declared.reader.FileFault.{FileFault}
use Rattle.go_units.specs.declared.reader.FileFault.TheVariants as fault

module _ (one : (tokens : List Token) (f g : File) → HasOutline tokens f → HasOutline tokens g → f ≡ g) (tokens : List Token) (o : File) (h : HasOutline tokens o) where
  bad_blocks : (f : FileFault) → HasNoBlocks tokens o f → HasBadTokens tokens f
  bad_blocks fault.BadExpression k = k
  bad_blocks fault.Twice k = k
  bad_blocks fault.PlusBuild k = k
  bad_blocks (fault.BadToken offset) k = k
  bad_blocks fault.Syntax k = λ f blocks g b. k blocks (subst (λ (z : File). HasFileBlocks tokens z blocks) (one tokens f o g h) b)

  -- an outline without blocks is the only one
  pub no_blocks : (e : FileError) → Causes (HasNoBlocks tokens o) e → Causes (HasBadTokens tokens) e
  no_blocks (error.Faulty f) k = bad_blocks f k
  no_blocks error.NoMemory k = tt

bad_text : (bytes : List ℕ) (tokens : List Token) → IsTokens bytes tokens → (f : FileFault) → HasBadTokens tokens f → HasBadText bytes f
bad_text bytes tokens t fault.BadExpression k = k
bad_text bytes tokens t fault.Twice k = k
bad_text bytes tokens t fault.PlusBuild k = k
bad_text bytes tokens t (fault.BadToken offset) k = absurd k
bad_text bytes tokens t fault.Syntax k = (tokens, t, k)

pub bad_bytes : (bytes : List ℕ) (tokens : List Token) → IsTokens bytes tokens → (e : FileError) → Causes (HasBadTokens tokens) e → Causes (HasBadText bytes) e
bad_bytes bytes tokens t (error.Faulty f) k = bad_text bytes tokens t f k
bad_bytes bytes tokens t error.NoMemory k = tt

-- the tokens of a file that have an outline with blocks
pub parsed_as : (file : TreeFile) (tokens : List Token) (path : List ℕ) (r : Result ParsedFile FileError) → path ≡ path_of file → IsTokens file.bytes tokens → IfOk r (λ (x : ParsedFile). x.source.path ≡ path) → IfOk r (IsParsedOf tokens) → IfOk r (IsParsed file)
parsed_as file tokens path (Ok x) e t p k = record { path = p ∙ e; tokens = tokens; are = t; outline = k.outline; blocks = k.blocks }
parsed_as file tokens path (Err x) e t p k = tt
