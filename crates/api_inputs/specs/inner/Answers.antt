-- What the functions that read inputs answer.
use Rattle.std.specs.Prelude.{◌≡◌, ℕ, Option, List, Result, Ok, Err}
use Rattle.api_inputs.specs.FrozenInputs.{AreLines, GivesLines, HasFault, IsFirstFault}
use Rattle.api_inputs.specs.Inputs.{MayHaveClient, MayHaveOld, MayRefuseClient, MayRefuseOld, optional}
use Rattle.api_inputs.specs.Reads.{MayHaveStd, MayLoad}
use Rattle.api_inputs.specs.declared.frozen.FileError.{FileError}
use Rattle.api_inputs.specs.declared.frozen.FileError.TheVariants as file
use Rattle.api_inputs.specs.declared.inputs.InputError.{InputError}
use Rattle.api_inputs.specs.declared.inputs.InputError.TheVariants as error
use Rattle.api_inputs.specs.declared.inputs.ClientInputs.{ClientInputs}
use Rattle.api_inputs.specs.declared.inputs.FrozenInputs.{FrozenInputs}
use Rattle.api_inputs.specs.declared.inputs.Inputs.{Inputs}
use Rattle.api_inputs.specs.declared.inputs.NewInputs.{NewInputs}
use Rattle.api_inputs.specs.declared.inputs.Others.{Others}
use Rattle.api_texts.specs.FaultLines.{frozen_line, load_line}
use Rattle.api_texts.specs.declared.lines.FrozenFault.{FrozenFault}
use Rattle.api_texts.specs.declared.lines.Side.{Side}
use Rattle.api_texts.specs.declared.lines.Side.TheVariants as side
use Rattle.api_words.specs.declared.request.Request.{Request}
use Rattle.go_load.specs.Answers.{IsFree}
use Rattle.go_load.specs.declared.error.LoadError.{LoadError}
use Rattle.go_load.specs.declared.error.LoadError.TheVariants as load
use Rattle.go_model.specs.declared.files.tree.Tree.{Tree}
use Rattle.go_outside.specs.Faults.{Rose}
use Rattle.go_outside.specs.Stores.{Contents}

-- a file of frozen lines gives its lines or has a fault; the store failed where the count rose; want of memory may come at any time
abbrev pub AnswersFile : Option Contents → List ℕ → ℕ → ℕ → Result (List (List ℕ)) FileError → Type 0
AnswersFile told path before now (Ok lines) = GivesLines told path lines
AnswersFile told path before now (Err (file.Fault f)) = HasFault told path f
AnswersFile told path before now (Err file.ReadFault) = Rose before now
AnswersFile told path before now (Err file.NoMemory) = Unit {0}

-- the same of several files: their lines, or the fault line of the first that has a fault
abbrev pub AnswersFiles : Option Contents → List (List ℕ) → ℕ → ℕ → Result (List (List ℕ)) InputError → Type 0
AnswersFiles told paths before now (Ok lines) = AreLines told paths lines
AnswersFiles told paths before now (Err (error.Refused line)) = (path : List ℕ) × (f : FrozenFault) × IsFirstFault told paths path f × (line ≡ frozen_line path f)
AnswersFiles told paths before now (Err error.ReadFault) = Rose before now
AnswersFiles told paths before now (Err error.NoMemory) = Unit {0}

-- a tree of a side, by what its load may answer
abbrev pub AnswersTree : (Result Tree LoadError → Type 0) → Side → ℕ → ℕ → Result Tree InputError → Type 0
AnswersTree May s before now (Ok t) = May (Ok t)
AnswersTree May s before now (Err (error.Refused line)) = (e : LoadError) × May (Err e) × (IsFree (Err e) → ⊥) × (line ≡ load_line s e)
AnswersTree May s before now (Err error.ReadFault) = Rose before now
AnswersTree May s before now (Err error.NoMemory) = Unit {0}

-- the old tree where a folder is given, by what its load may answer
abbrev pub AnswersOld : Option Contents → Option (List ℕ) → ℕ → ℕ → Result (Option Tree) InputError → Type 0
AnswersOld told root before now (Ok t) = MayHaveOld told root t
AnswersOld told root before now (Err (error.Refused line)) = (e : LoadError) × MayRefuseOld told root e × (IsFree (Err e) → ⊥) × (line ≡ load_line side.Old e)
AnswersOld told root before now (Err error.ReadFault) = Rose before now
AnswersOld told root before now (Err error.NoMemory) = Unit {0}

-- a client where a folder is given, by what its load may answer
abbrev pub AnswersClient : Option Contents → Option (List ℕ) → ℕ → ℕ → Result (Option Tree) InputError → Type 0
AnswersClient told root before now (Ok t) = MayHaveClient told root t
AnswersClient told root before now (Err (error.Refused line)) = (e : LoadError) × MayRefuseClient told root e × (IsFree (Err e) → ⊥) × (line ≡ load_line side.Client e)
AnswersClient told root before now (Err error.ReadFault) = Rose before now
AnswersClient told root before now (Err error.NoMemory) = Unit {0}

-- what the error of a load is told as
abbrev pub IsToldAs : Side → LoadError → InputError → Type 0
IsToldAs s e (error.Refused line) = (IsFree (Err e) → ⊥) × (line ≡ load_line s e)
IsToldAs s e error.ReadFault = e ≡ load.ReadFault
IsToldAs s e error.NoMemory = Unit {0}

-- the fault line of the first file of frozen lines or of exceptions that has a fault
pub data IsFrozenLine (told : Option Contents) (r : Request) : List ℕ → Type 0 where
  of_api : (path : List ℕ) (f : FrozenFault) → IsFirstFault told r.api path f → IsFrozenLine told r (frozen_line path f)
  of_except : (lines : List (List ℕ)) (path : List ℕ) (f : FrozenFault) → AreLines told r.api lines → IsFirstFault told (optional r.except) path f → IsFrozenLine told r (frozen_line path f)

-- the lines of both, or that fault line
abbrev pub AnswersFrozen : Option Contents → Request → ℕ → ℕ → Result FrozenInputs InputError → Type 0
AnswersFrozen told r before now (Ok i) = AreLines told r.api i.required × AreLines told (optional r.except) i.exceptions
AnswersFrozen told r before now (Err (error.Refused line)) = IsFrozenLine told r line
AnswersFrozen told r before now (Err error.ReadFault) = Rose before now
AnswersFrozen told r before now (Err error.NoMemory) = Unit {0}

-- the fault line of the first refusal besides those of trees
pub data IsClientLine (told : Option Contents) (r : Request) : List ℕ → Type 0 where
  of_client : (e : LoadError) → MayRefuseClient told r.client e → (IsFree (Err e) → ⊥) → IsClientLine told r (load_line side.Client e)
  of_frozen : {line : List ℕ} (c : Option Tree) → MayHaveClient told r.client c → IsFrozenLine told r line → IsClientLine told r line

-- what is read besides the trees, or that fault line
abbrev pub AnswersClientInputs : Option Contents → Request → ℕ → ℕ → Result ClientInputs InputError → Type 0
AnswersClientInputs told r before now (Ok i) = MayHaveClient told r.client i.client × AreLines told r.api i.frozen.required × AreLines told (optional r.except) i.frozen.exceptions
AnswersClientInputs told r before now (Err (error.Refused line)) = IsClientLine told r line
AnswersClientInputs told r before now (Err error.ReadFault) = Rose before now
AnswersClientInputs told r before now (Err error.NoMemory) = Unit {0}

-- the fault line of the first refusal besides those of the module's trees
pub data IsOtherLine (told : Option Contents) (r : Request) : List ℕ → Type 0 where
  of_std : (e : LoadError) → MayHaveStd told r.std (Err e) → (IsFree (Err e) → ⊥) → IsOtherLine told r (load_line side.Std e)
  of_client_inputs : {line : List ℕ} (s : Tree) → MayHaveStd told r.std (Ok s) → IsClientLine told r line → IsOtherLine told r line

-- what is read besides the module's trees, or that fault line
abbrev pub AnswersOthers : Option Contents → Request → ℕ → ℕ → Result Others InputError → Type 0
AnswersOthers told r before now (Ok o) = MayHaveStd told r.std (Ok o.std_tree) × AnswersClientInputs told r before now (Ok o.more)
AnswersOthers told r before now (Err (error.Refused line)) = IsOtherLine told r line
AnswersOthers told r before now (Err error.ReadFault) = Rose before now
AnswersOthers told r before now (Err error.NoMemory) = Unit {0}

-- the fault line of the first refusal besides that of the module's old tree
pub data IsNewLine (told : Option Contents) (r : Request) : List ℕ → Type 0 where
  of_tree : (e : LoadError) → MayLoad told r.new (Err e) → (IsFree (Err e) → ⊥) → IsNewLine told r (load_line side.New e)
  of_others : {line : List ℕ} (t : Tree) → MayLoad told r.new (Ok t) → IsOtherLine told r line → IsNewLine told r line

-- what is read besides the module's old tree, or that fault line
abbrev pub AnswersNew : Option Contents → Request → ℕ → ℕ → Result NewInputs InputError → Type 0
AnswersNew told r before now (Ok n) = MayLoad told r.new (Ok n.tree) × AnswersOthers told r before now (Ok n.others)
AnswersNew told r before now (Err (error.Refused line)) = IsNewLine told r line
AnswersNew told r before now (Err error.ReadFault) = Rose before now
AnswersNew told r before now (Err error.NoMemory) = Unit {0}

abbrev pub inputs_of : Option Tree → NewInputs → Inputs
inputs_of o n = record { old_tree = o; tree = n.tree; std_tree = n.others.std_tree; client = n.others.more.client; required = n.others.more.frozen.required; exceptions = n.others.more.frozen.exceptions }
