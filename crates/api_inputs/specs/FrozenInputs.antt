-- The lines that files of frozen lines give, file by file, or the first fault.
-- Own: this project's inputs.
use Rattle.std.specs.Prelude.{ℕ, Option, List, [], ◌∷◌, ◌++◌, Ok, Err}
use Rattle.api_frozen.specs.FrozenFiles.{HasCause, IsFrozenFile}
use Rattle.api_frozen.specs.declared.error.FrozenError.TheVariants as error
use Rattle.api_inputs.specs.Reads.{MayRead}
use Rattle.api_texts.specs.declared.lines.FrozenFault.{FrozenFault}
use Rattle.api_texts.specs.declared.lines.FrozenFault.TheVariants as fault
use Rattle.go_outside.specs.Stores.{Contents}
use Rattle.go_outside.specs.declared.files.FilesError.TheVariants as files

module _ (told : Option Contents) where
  -- the file gives these lines
  abbrev pub GivesLines : List ℕ → List (List ℕ) → Type 0
  GivesLines path lines = (bytes : List ℕ) × MayRead told path (Ok bytes) × IsFrozenFile bytes lines

  -- the file gives no lines: it isn't there, is too large, isn't UTF-8, or a line of it is no feature line
  abbrev pub HasFault : List ℕ → FrozenFault → Type 0
  HasFault path fault.Missing = MayRead told path (Err files.Missing)
  HasFault path fault.TooLarge = MayRead told path (Err files.TooLarge)
  HasFault path (fault.NotUtf8 offset) = (bytes : List ℕ) × MayRead told path (Ok bytes) × HasCause bytes (error.NotUtf8 offset)
  HasFault path (fault.NotALine number) = (bytes : List ℕ) × MayRead told path (Ok bytes) × HasCause bytes (error.NotALine number)

  -- the lines of all these files, one file after another
  pub data AreLines : List (List ℕ) → List (List ℕ) → Type 0 where
    lines_none : AreLines [] []
    lines_more : {path : List ℕ} {paths lines more : List (List ℕ)} → GivesLines path lines → AreLines paths more → AreLines (path ∷ paths) (lines ++ more)

  -- the first of the files that gives none, and why
  pub data IsFirstFault : List (List ℕ) → List ℕ → FrozenFault → Type 0 where
    fault_here : {path : List ℕ} {paths : List (List ℕ)} {f : FrozenFault} → HasFault path f → IsFirstFault (path ∷ paths) path f
    fault_later : {path at : List ℕ} {paths lines : List (List ℕ)} {f : FrozenFault} → GivesLines path lines → IsFirstFault paths at f → IsFirstFault (path ∷ paths) at f
