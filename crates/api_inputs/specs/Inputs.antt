-- What a run reads for a request, and why it is refused before a platform is taken: the module's old tree and its new one, the standard
-- library's, a client's folder, the files of frozen lines in the order given, and the exceptions, in this order.
-- Own: this project's inputs.
use Rattle.std.specs.Prelude.{◌≡◌, ℕ, Option, Some, None, List, [], ◌∷◌, Result, Ok, Err}
use Rattle.api_inputs.specs.FrozenInputs.{AreLines, IsFirstFault}
use Rattle.api_inputs.specs.Reads.{MayHaveStd, MayLoad, MayLoadClient}
use Rattle.api_inputs.specs.declared.inputs.InputError.{InputError}
use Rattle.api_inputs.specs.declared.inputs.InputError.TheVariants as error
use Rattle.api_inputs.specs.declared.inputs.Inputs.{Inputs}
use Rattle.api_texts.specs.FaultLines.{frozen_line, load_line}
use Rattle.api_texts.specs.declared.lines.FrozenFault.{FrozenFault}
use Rattle.api_texts.specs.declared.lines.Side.TheVariants as side
use Rattle.api_words.specs.declared.request.Request.{Request}
use Rattle.go_load.specs.Answers.{IsFree}
use Rattle.go_load.specs.declared.error.LoadError.{LoadError}
use Rattle.go_model.specs.declared.files.tree.Tree.{Tree}
use Rattle.go_outside.specs.Faults.{Rose}
use Rattle.go_outside.specs.Stores.{Contents}

-- a text that may be there, as a list
abbrev pub optional : Option (List ℕ) → List (List ℕ)
optional None = []
optional (Some text) = text ∷ []

-- where no folder is given, there is no old tree
abbrev pub MayHaveOld : Option Contents → Option (List ℕ) → Option Tree → Type 0
MayHaveOld told None tree = tree ≡ None
MayHaveOld told (Some root) tree = (t : Tree) × MayLoad told root (Ok t) × (tree ≡ Some t)

-- the load of the old tree may answer this error
abbrev pub MayRefuseOld : Option Contents → Option (List ℕ) → LoadError → Type 0
MayRefuseOld told None e = ⊥
MayRefuseOld told (Some root) e = MayLoad told root (Err e)

-- where no folder is given, there is no client
abbrev pub MayHaveClient : Option Contents → Option (List ℕ) → Option Tree → Type 0
MayHaveClient told None client = client ≡ None
MayHaveClient told (Some root) client = (t : Tree) × MayLoadClient told root (Ok t) × (client ≡ Some t)

-- the load of a client's folder may answer this error
abbrev pub MayRefuseClient : Option Contents → Option (List ℕ) → LoadError → Type 0
MayRefuseClient told None e = ⊥
MayRefuseClient told (Some root) e = MayLoadClient told root (Err e)

module _ (told : Option Contents) (r : Request) where
  -- the trees and lines for which the request asks
  pub record AreInputs (i : Inputs) : Type 0 where
    pub old_tree : MayHaveOld told r.old i.old_tree
    pub tree : MayLoad told r.new (Ok i.tree)
    pub std_tree : MayHaveStd told r.std (Ok i.std_tree)
    pub client : MayHaveClient told r.client i.client
    pub required : AreLines told r.api i.required
    pub exceptions : AreLines told (optional r.except) i.exceptions

  -- the fault line of the first of them that is refused
  pub data IsInputRefusal : List ℕ → Type 0 where
    old_refused : (e : LoadError) → MayRefuseOld told r.old e → (IsFree (Err e) → ⊥) → IsInputRefusal (load_line side.Old e)
    tree_refused : (o : Option Tree) (e : LoadError) → MayHaveOld told r.old o → MayLoad told r.new (Err e) → (IsFree (Err e) → ⊥) → IsInputRefusal (load_line side.New e)
    std_refused : (o : Option Tree) (t : Tree) (e : LoadError) → MayHaveOld told r.old o → MayLoad told r.new (Ok t) → MayHaveStd told r.std (Err e) → (IsFree (Err e) → ⊥) → IsInputRefusal (load_line side.Std e)
    client_refused : (o : Option Tree) (t s : Tree) (e : LoadError) → MayHaveOld told r.old o → MayLoad told r.new (Ok t) → MayHaveStd told r.std (Ok s) → MayRefuseClient told r.client e → (IsFree (Err e) → ⊥)
        → IsInputRefusal (load_line side.Client e)
    api_refused : (o : Option Tree) (t s : Tree) (c : Option Tree) (path : List ℕ) (f : FrozenFault) → MayHaveOld told r.old o → MayLoad told r.new (Ok t) → MayHaveStd told r.std (Ok s) → MayHaveClient told r.client c
        → IsFirstFault told r.api path f → IsInputRefusal (frozen_line path f)
    except_refused : (o : Option Tree) (t s : Tree) (c : Option Tree) (lines : List (List ℕ)) (path : List ℕ) (f : FrozenFault) → MayHaveOld told r.old o → MayLoad told r.new (Ok t) → MayHaveStd told r.std (Ok s) → MayHaveClient told r.client c
        → AreLines told r.api lines → IsFirstFault told (optional r.except) path f → IsInputRefusal (frozen_line path f)

-- the inputs, or the fault line of the first that is refused; the store failed where the count of its faults rose; want of memory may come at
-- any time
abbrev pub AnswersInputs : Option Contents → Request → ℕ → ℕ → Result Inputs InputError → Type 0
AnswersInputs told r before now (Ok i) = AreInputs told r i
AnswersInputs told r before now (Err (error.Refused line)) = IsInputRefusal told r line
AnswersInputs told r before now (Err error.ReadFault) = Rose before now
AnswersInputs told r before now (Err error.NoMemory) = Unit {0}
