-- What is read step by step is what a request asks for.
use Rattle.std.proofs.Common.{◌≡◌, ℕ, Option, List, Ok, Err, sym, subst}
use Rattle.go_model.specs.declared.files.tree.Tree.{Tree}
use Rattle.go_outside.specs.Stores.{Contents}
use Rattle.api_inputs.specs.FrozenInputs.{AreLines}
use Rattle.api_inputs.specs.Inputs.{AnswersInputs, IsInputRefusal, old_refused, tree_refused, std_refused, client_refused, api_refused, except_refused, MayHaveClient, MayHaveOld, optional}
use Rattle.api_inputs.specs.Reads.{MayHaveStd, MayLoad, NeverFell}
use Rattle.api_inputs.specs.declared.inputs.InputError.{InputError}
use Rattle.api_inputs.specs.declared.inputs.InputError.TheVariants as error
use Rattle.api_inputs.specs.inner.Answers.{AnswersClient, AnswersClientInputs, AnswersFiles, AnswersFrozen, AnswersNew, AnswersOld, AnswersOthers, AnswersTree, IsClientLine, of_client, of_frozen, IsFrozenLine, of_api, of_except, IsNewLine, of_tree, of_others, IsOtherLine, of_std, of_client_inputs}
use Rattle.api_inputs.proofs.FrozenLists.{rose_later}
use Rattle.api_texts.specs.declared.lines.Side.TheVariants as side
use Rattle.api_words.specs.declared.request.Request.{Request}

module _ (told : Option Contents) (r : Request) where
  -- ---- files of frozen lines

  pub api_error : (paths : List (List ℕ)) (before now : ℕ) (x : InputError) → paths ≡ r.api → AnswersFiles told paths before now (Err x) → AnswersFrozen told r before now (Err x)
  api_error paths before now x e a = by x (subst (λ (ps : List (List ℕ)). AnswersFiles told ps before now (Err x)) e a)
    where
      by : (x : InputError) → AnswersFiles told r.api before now (Err x) → AnswersFrozen told r before now (Err x)
      by (error.Refused line) a = subst (IsFrozenLine told r) (sym a.3) (of_api a.0 a.1 a.2)
      by error.ReadFault a = a
      by error.NoMemory a = tt

  pub api_lines : (paths lines : List (List ℕ)) → paths ≡ r.api → AreLines told paths lines → AreLines told r.api lines
  api_lines paths lines e l = subst (λ (ps : List (List ℕ)). AreLines told ps lines) e l

  pub except_error : (then : Option Contents) (path : Option (List ℕ)) (lines : List (List ℕ)) (before mid now : ℕ) (x : InputError) → then ≡ told → path ≡ r.except → NeverFell before mid → AreLines told r.api lines
      → AnswersFiles then (optional path) mid now (Err x) → AnswersFrozen told r before now (Err x)
  except_error then path lines before mid now x same e n l a =
      by x (subst (λ (p : Option (List ℕ)). AnswersFiles told (optional p) mid now (Err x)) e (subst (λ (t : Option Contents). AnswersFiles t (optional path) mid now (Err x)) same a))
    where
      by : (x : InputError) → AnswersFiles told (optional r.except) mid now (Err x) → AnswersFrozen told r before now (Err x)
      by (error.Refused line) a = subst (IsFrozenLine told r) (sym a.3) (of_except lines a.0 a.1 l a.2)
      by error.ReadFault a = rose_later before mid now n a
      by error.NoMemory a = tt

  -- ---- what is read besides the trees

  pub client_error : (root : Option (List ℕ)) (before now : ℕ) (x : InputError) → root ≡ r.client → AnswersClient told root before now (Err x) → AnswersClientInputs told r before now (Err x)
  client_error root before now x e a = by x (subst (λ (p : Option (List ℕ)). AnswersClient told p before now (Err x)) e a)
    where
      by : (x : InputError) → AnswersClient told r.client before now (Err x) → AnswersClientInputs told r before now (Err x)
      by (error.Refused line) a = subst (IsClientLine told r) (sym a.3) (of_client a.0 a.1 a.2)
      by error.ReadFault a = a
      by error.NoMemory a = tt

  pub frozen_error : (then : Option Contents) (c : Option Tree) (before mid now : ℕ) (x : InputError) → then ≡ told → NeverFell before mid → MayHaveClient told r.client c → AnswersFrozen then r mid now (Err x) → AnswersClientInputs told r before now (Err x)
  frozen_error then c before mid now x same n h a = by x (subst (λ (t : Option Contents). AnswersFrozen t r mid now (Err x)) same a)
    where
      by : (x : InputError) → AnswersFrozen told r mid now (Err x) → AnswersClientInputs told r before now (Err x)
      by (error.Refused line) a = of_frozen c h a
      by error.ReadFault a = rose_later before mid now n a
      by error.NoMemory a = tt

  -- ---- what is read besides the module's trees

  pub std_error : (root : Option (List ℕ)) (before now : ℕ) (x : InputError) → root ≡ r.std → AnswersTree (MayHaveStd told root) side.Std before now (Err x) → AnswersOthers told r before now (Err x)
  std_error root before now x e a = by x (subst (λ (p : Option (List ℕ)). AnswersTree (MayHaveStd told p) side.Std before now (Err x)) e a)
    where
      by : (x : InputError) → AnswersTree (MayHaveStd told r.std) side.Std before now (Err x) → AnswersOthers told r before now (Err x)
      by (error.Refused line) a = subst (IsOtherLine told r) (sym a.3) (of_std a.0 a.1 a.2)
      by error.ReadFault a = a
      by error.NoMemory a = tt

  pub client_inputs_error : (then : Option Contents) (s : Tree) (before mid now : ℕ) (x : InputError) → then ≡ told → NeverFell before mid → MayHaveStd told r.std (Ok s) → AnswersClientInputs then r mid now (Err x) → AnswersOthers told r before now (Err x)
  client_inputs_error then s before mid now x same n h a = by x (subst (λ (t : Option Contents). AnswersClientInputs t r mid now (Err x)) same a)
    where
      by : (x : InputError) → AnswersClientInputs told r mid now (Err x) → AnswersOthers told r before now (Err x)
      by (error.Refused line) a = of_client_inputs s h a
      by error.ReadFault a = rose_later before mid now n a
      by error.NoMemory a = tt

  -- ---- what is read besides the module's old tree

  pub tree_error : (root : List ℕ) (before now : ℕ) (x : InputError) → root ≡ r.new → AnswersTree (MayLoad told root) side.New before now (Err x) → AnswersNew told r before now (Err x)
  tree_error root before now x e a = by x (subst (λ (p : List ℕ). AnswersTree (MayLoad told p) side.New before now (Err x)) e a)
    where
      by : (x : InputError) → AnswersTree (MayLoad told r.new) side.New before now (Err x) → AnswersNew told r before now (Err x)
      by (error.Refused line) a = subst (IsNewLine told r) (sym a.3) (of_tree a.0 a.1 a.2)
      by error.ReadFault a = a
      by error.NoMemory a = tt

  pub others_error : (then : Option Contents) (t : Tree) (before mid now : ℕ) (x : InputError) → then ≡ told → NeverFell before mid → MayLoad told r.new (Ok t) → AnswersOthers then r mid now (Err x) → AnswersNew told r before now (Err x)
  others_error then t before mid now x same n h a = by x (subst (λ (w : Option Contents). AnswersOthers w r mid now (Err x)) same a)
    where
      by : (x : InputError) → AnswersOthers told r mid now (Err x) → AnswersNew told r before now (Err x)
      by (error.Refused line) a = of_others t h a
      by error.ReadFault a = rose_later before mid now n a
      by error.NoMemory a = tt

  -- ---- all

  pub old_error : (root : Option (List ℕ)) (before now : ℕ) (x : InputError) → root ≡ r.old → AnswersOld told root before now (Err x) → AnswersInputs told r before now (Err x)
  old_error root before now x e a = by x (subst (λ (p : Option (List ℕ)). AnswersOld told p before now (Err x)) e a)
    where
      by : (x : InputError) → AnswersOld told r.old before now (Err x) → AnswersInputs told r before now (Err x)
      by (error.Refused line) a = subst (IsInputRefusal told r) (sym a.3) (old_refused a.0 a.1 a.2)
      by error.ReadFault a = a
      by error.NoMemory a = tt

  module _ (o : Option Tree) (old : MayHaveOld told r.old o) where
    frozen_line_of : (t s : Tree) (c : Option Tree) (line : List ℕ) → MayLoad told r.new (Ok t) → MayHaveStd told r.std (Ok s) → MayHaveClient told r.client c → IsFrozenLine told r line → IsInputRefusal told r line
    frozen_line_of t s c line h k m (of_api path f d) = api_refused o t s c path f old h k m d
    frozen_line_of t s c line h k m (of_except lines path f l d) = except_refused o t s c lines path f old h k m l d

    client_line_of : (t s : Tree) (line : List ℕ) → MayLoad told r.new (Ok t) → MayHaveStd told r.std (Ok s) → IsClientLine told r line → IsInputRefusal told r line
    client_line_of t s line h k (of_client e m n) = client_refused o t s e old h k m n
    client_line_of t s line h k (of_frozen c m d) = frozen_line_of t s c line h k m d

    other_line_of : (t : Tree) (line : List ℕ) → MayLoad told r.new (Ok t) → IsOtherLine told r line → IsInputRefusal told r line
    other_line_of t line h (of_std e k n) = std_refused o t e old h k n
    other_line_of t line h (of_client_inputs s k d) = client_line_of t s line h k d

    new_line_of : (line : List ℕ) → IsNewLine told r line → IsInputRefusal told r line
    new_line_of line (of_tree e h n) = tree_refused o e old h n
    new_line_of line (of_others t h d) = other_line_of t line h d

    pub new_error : (then : Option Contents) (before mid now : ℕ) (x : InputError) → then ≡ told → NeverFell before mid → AnswersNew then r mid now (Err x) → AnswersInputs told r before now (Err x)
    new_error then before mid now x same n a = by x (subst (λ (w : Option Contents). AnswersNew w r mid now (Err x)) same a)
      where
        by : (x : InputError) → AnswersNew told r mid now (Err x) → AnswersInputs told r before now (Err x)
        by (error.Refused line) a = new_line_of line a
        by error.ReadFault a = rose_later before mid now n a
        by error.NoMemory a = tt

  pub std_as : (root : Option (List ℕ)) (s : Tree) → root ≡ r.std → MayHaveStd told root (Ok s) → MayHaveStd told r.std (Ok s)
  std_as root s e h = subst (λ (p : Option (List ℕ)). MayHaveStd told p (Ok s)) e h

  pub client_as : (root : Option (List ℕ)) (c : Option Tree) → root ≡ r.client → MayHaveClient told root c → MayHaveClient told r.client c
  client_as root c e h = subst (λ (p : Option (List ℕ)). MayHaveClient told p c) e h

  pub tree_as : (root : List ℕ) (t : Tree) → root ≡ r.new → MayLoad told root (Ok t) → MayLoad told r.new (Ok t)
  tree_as root t e h = subst (λ (p : List ℕ). MayLoad told p (Ok t)) e h

  pub old_as : (root : Option (List ℕ)) (o : Option Tree) → root ≡ r.old → MayHaveOld told root o → MayHaveOld told r.old o
  old_as root o e h = subst (λ (p : Option (List ℕ)). MayHaveOld told p o) e h
