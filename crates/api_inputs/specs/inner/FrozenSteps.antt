-- What the steps of reading a file of frozen lines answer.
use Rattle.std.specs.Prelude.{◌≡◌, ℕ, List, Result, Ok, Err}
use Rattle.api_frozen.specs.FrozenFiles.{HasCause, IsFrozenFile}
use Rattle.api_frozen.specs.declared.error.FrozenError.TheVariants as frozen
use Rattle.api_inputs.specs.declared.frozen.FileError.{FileError}
use Rattle.api_inputs.specs.declared.frozen.FileError.TheVariants as file
use Rattle.api_inputs.specs.declared.inputs.InputError.{InputError}
use Rattle.api_inputs.specs.declared.inputs.InputError.TheVariants as error
use Rattle.api_texts.specs.FaultLines.{frozen_line}
use Rattle.api_texts.specs.declared.lines.FrozenFault.{FrozenFault}
use Rattle.api_texts.specs.declared.lines.FrozenFault.TheVariants as fault
use Rattle.go_outside.specs.declared.files.FilesError.{FilesError}
use Rattle.go_outside.specs.declared.files.FilesError.TheVariants as files

-- the bytes give these lines, or have a fault
abbrev pub AnswersLines : List ℕ → Result (List (List ℕ)) FileError → Type 0
AnswersLines bytes (Ok lines) = IsFrozenFile bytes lines
AnswersLines bytes (Err (file.Fault fault.Missing)) = ⊥
AnswersLines bytes (Err (file.Fault fault.TooLarge)) = ⊥
AnswersLines bytes (Err (file.Fault (fault.NotUtf8 offset))) = HasCause bytes (frozen.NotUtf8 offset)
AnswersLines bytes (Err (file.Fault (fault.NotALine number))) = HasCause bytes (frozen.NotALine number)
AnswersLines bytes (Err file.ReadFault) = ⊥
AnswersLines bytes (Err file.NoMemory) = Unit {0}

-- what the error of a store is for a file
abbrev pub file_error : FilesError → FileError
file_error files.Missing = file.Fault fault.Missing
file_error files.TooLarge = file.Fault fault.TooLarge
file_error files.Failed = file.ReadFault
file_error files.NoMemory = file.NoMemory

-- the fault line of a file, unless no memory was left
abbrev pub IsFrozenRefusal : List ℕ → FrozenFault → InputError → Type 0
IsFrozenRefusal path f (error.Refused line) = line ≡ frozen_line path f
IsFrozenRefusal path f error.ReadFault = ⊥
IsFrozenRefusal path f error.NoMemory = Unit {0}

-- what the error of a file is for a run
abbrev pub IsInputError : List ℕ → FileError → InputError → Type 0
IsInputError path (file.Fault f) e = IsFrozenRefusal path f e
IsInputError path file.ReadFault e = e ≡ error.ReadFault
IsInputError path file.NoMemory e = e ≡ error.NoMemory
