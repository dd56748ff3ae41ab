-- Each request has inputs over the files that a store tells, or a first refusal.
use Rattle.std.proofs.Common.{◌≡◌, ◌⊎◌, ◌<◌, ◌≤◌, ℕ, List, [], ◌∷◌, ◌++◌, length, Option, Some, None, Result, Ok, Err, refl, sym, inl, inr}
use Rattle.std.specs.FinMap.{get}
use Rattle.std.specs.Prelude.{IfOk}
use Rattle.api_frozen.specs.FrozenFiles.{HasCause, IsFrozenFile}
use Rattle.api_frozen.specs.declared.error.FrozenError.{FrozenError}
use Rattle.api_frozen.specs.declared.error.FrozenError.TheVariants as frozen
use Rattle.api_inputs.specs.FrozenInputs.{AreLines, GivesLines, HasFault, IsFirstFault, fault_here, fault_later, lines_more, lines_none}
use Rattle.api_inputs.specs.Inputs.{AreInputs, IsInputRefusal, MayHaveClient, MayHaveOld, MayRefuseClient, MayRefuseOld, api_refused, client_refused, except_refused, old_refused, optional, std_refused, tree_refused}
use Rattle.api_inputs.specs.Reads.{MayHaveStd, MayLoad, MayLoadClient, MayLoadStd, MayRead, most_frozen, no_tree}
use Rattle.api_inputs.specs.declared.inputs.Inputs.{Inputs}
use Rattle.api_line_outcomes.proofs.FrozenFiles.{lines_read}
use Rattle.api_texts.specs.FaultLines.{frozen_line, load_line}
use Rattle.api_texts.specs.declared.lines.FrozenFault.{FrozenFault}
use Rattle.api_texts.specs.declared.lines.FrozenFault.TheVariants as fault
use Rattle.api_texts.specs.declared.lines.Side.TheVariants as side
use Rattle.api_words.specs.declared.request.Request.{Request}
use Rattle.go_existence.specs.Existence.{NotNone}
use Rattle.go_existence.proofs.DoubleNegation.{bind, less_or, so, sure}
use Rattle.go_load.specs.Answers.{IsFree}
use Rattle.go_load.specs.Loads.{LoadsFiles, LoadsModule}
use Rattle.go_load.specs.declared.error.LoadError.{LoadError}
use Rattle.go_load.specs.declared.kind.TreeKind.TheVariants as kind
use Rattle.go_load_outcomes.proofs.LoadOutcomes.{files_end, module_end}
use Rattle.go_model.specs.declared.files.tree.Tree.{Tree}
use Rattle.go_model.specs.files.Trees.{IsModulePath, IsTree}
use Rattle.go_outside.specs.Stores.{AnswersRead, Contents}
use Rattle.go_outside.specs.declared.files.FilesError.TheVariants as files

module _ (m : Contents) where
  -- ---- trees

  abbrev Refuses : (Result Tree LoadError → Type 0) → Type 0
  Refuses May = (e : LoadError) × May (Err e) × (IsFree (Err e) → ⊥)

  abbrev Ends : (Result Tree LoadError → Type 0) → Type 0
  Ends May = ((t : Tree) × May (Ok t)) ⊎ Refuses May

  of_module : (root : List ℕ) (r : Result Tree LoadError) → LoadsModule m root r → (IsFree r → ⊥) → IfOk r (λ t. IsTree t × IsModulePath t.«module») → Ends (MayLoad (Some m) root)
  of_module root (Ok t) l free is = inl (t, record { loaded = l; tree = is.0; module_path = is.1 })
  of_module root (Err e) l free is = inr (e, record { loaded = l; tree = tt; module_path = tt }, free)

  module_loaded : (root : List ℕ) → NotNone (Ends (MayLoad (Some m) root))
  module_loaded root = so (module_end m root) (λ k. of_module root k.0 k.1.0 k.1.1 k.1.2)

  of_files : (root : List ℕ) (r : Result Tree LoadError) → LoadsFiles m kind.Std root r → (IsFree r → ⊥) → IfOk r IsTree → Ends (MayHaveStd (Some m) (Some root))
  of_files root (Ok t) l free is = inl (t, record { loaded = l; tree = is })
  of_files root (Err e) l free is = inr (e, record { loaded = l; tree = tt }, free)

  std_loaded : (o : Option (List ℕ)) → NotNone (Ends (MayHaveStd (Some m) o))
  std_loaded None = sure (inl (no_tree, refl))
  std_loaded (Some root) = so (files_end m kind.Std root) (λ k. of_files root k.0 k.1.0 k.1.1 k.1.2)

  abbrev OldEnds : Option (List ℕ) → Type 0
  OldEnds o = ((t : Option Tree) × MayHaveOld (Some m) o t) ⊎ ((e : LoadError) × MayRefuseOld (Some m) o e × (IsFree (Err e) → ⊥))

  old_loaded : (o : Option (List ℕ)) → NotNone (OldEnds o)
  old_loaded None = sure (inl (None, refl))
  old_loaded (Some root) = so (module_loaded root) (λ k. elim k [ inl t ↦ inl (Some t.0, (t.0, t.1, refl)) | inr e ↦ inr (e.0, e.1, e.2) ])

  of_folder : (root : List ℕ) (r : Result Tree LoadError) → LoadsFiles m kind.Client root r → (IsFree r → ⊥) → IfOk r IsTree → Ends (MayLoadClient (Some m) root)
  of_folder root (Ok t) l free is = inl (t, record { loaded = l; tree = is })
  of_folder root (Err e) l free is = inr (e, record { loaded = l; tree = tt }, free)

  abbrev ClientEnds : Option (List ℕ) → Type 0
  ClientEnds o = ((t : Option Tree) × MayHaveClient (Some m) o t) ⊎ ((e : LoadError) × MayRefuseClient (Some m) o e × (IsFree (Err e) → ⊥))

  client_loaded : (o : Option (List ℕ)) → NotNone (ClientEnds o)
  client_loaded None = sure (inl (None, refl))
  client_loaded (Some root) = so (files_end m kind.Client root) (λ k. elim (of_folder root k.0 k.1.0 k.1.1 k.1.2) [ inl t ↦ inl (Some t.0, (t.0, t.1, refl)) | inr e ↦ inr (e.0, e.1, e.2) ])

  -- ---- files of frozen lines

  abbrev FileEnds : List ℕ → Type 0
  FileEnds path = ((lines : List (List ℕ)) × GivesLines (Some m) path lines) ⊎ ((f : FrozenFault) × HasFault (Some m) path f)

  of_cause : (path bytes : List ℕ) → MayRead (Some m) path (Ok bytes) → (e : FrozenError) → (e ≡ frozen.NoMemory → ⊥) → HasCause bytes e → FileEnds path
  of_cause path bytes read (frozen.NotUtf8 at) n c = inr (fault.NotUtf8 at, (bytes, read, c))
  of_cause path bytes read (frozen.NotALine number) n c = inr (fault.NotALine number, (bytes, read, c))
  of_cause path bytes read frozen.NoMemory n c = absurd (n refl)

  of_told : (path : List ℕ) (o : Option (List ℕ)) → get m path ≡ o → NotNone (FileEnds path)
  of_told path None e = sure (inr (fault.Missing, record { bytes = e; small = tt }))
  of_told path (Some bytes) e = elim (less_or most_frozen (length bytes)) [
    | inl large ↦ sure (inr (fault.TooLarge, record { bytes = (bytes, e, large); small = tt }))
    | inr small ↦ (
        let read : MayRead (Some m) path (Ok bytes) = record { bytes = (e, small); small = small } in
        so (lines_read bytes) (λ k. elim k [ inl lines ↦ inl (lines.0, (bytes, read, lines.1)) | inr c ↦ of_cause path bytes read c.0 c.1 c.2 ])
        )
  ]

  abbrev LinesEnd : List (List ℕ) → Type 0
  LinesEnd paths = ((lines : List (List ℕ)) × AreLines (Some m) paths lines) ⊎ ((path : List ℕ) × (f : FrozenFault) × IsFirstFault (Some m) paths path f)

  on_lines : (path : List ℕ) (paths lines : List (List ℕ)) → GivesLines (Some m) path lines → LinesEnd paths → LinesEnd (path ∷ paths)
  on_lines path paths lines g (inl more) = inl (lines ++ more.0, lines_more g more.1)
  on_lines path paths lines g (inr f) = inr (f.0, f.1, fault_later g f.2)

  lines_end : (paths : List (List ℕ)) → NotNone (LinesEnd paths)
  lines_end [] = sure (inl ([], lines_none))
  lines_end (path ∷ paths) = bind (of_told path (get m path) refl) (λ k. elim k [
    | inl lines ↦ so (lines_end paths) (on_lines path paths lines.0 lines.1)
    | inr f ↦ sure (inr (path, f.0, fault_here f.1))
  ])

  -- ---- all

  pub inputs_end : (r : Request) → NotNone (((i : Inputs) × AreInputs (Some m) r i) ⊎ ((line : List ℕ) × IsInputRefusal (Some m) r line))
  inputs_end r = bind (old_loaded r.old) (λ o. elim o [
    | inr e ↦ sure (inr (load_line side.Old e.0, old_refused e.0 e.1 e.2))
    | inl old ↦ bind (module_loaded r.new) (λ n. elim n [
      | inr e ↦ sure (inr (load_line side.New e.0, tree_refused old.0 e.0 old.1 e.1 e.2))
      | inl tree ↦ bind (std_loaded r.std) (λ s. elim s [
        | inr e ↦ sure (inr (load_line side.Std e.0, std_refused old.0 tree.0 e.0 old.1 tree.1 e.1 e.2))
        | inl std ↦ bind (client_loaded r.client) (λ c. elim c [
          | inr e ↦ sure (inr (load_line side.Client e.0, client_refused old.0 tree.0 std.0 e.0 old.1 tree.1 std.1 e.1 e.2))
          | inl client ↦ bind (lines_end r.api) (λ a. elim a [
            | inr f ↦ sure (inr (frozen_line f.0 f.1, api_refused old.0 tree.0 std.0 client.0 f.0 f.1 old.1 tree.1 std.1 client.1 f.2))
            | inl api ↦ so (lines_end (optional r.except)) (λ x. elim x [
              | inr f ↦ inr (frozen_line f.0 f.1, except_refused old.0 tree.0 std.0 client.0 api.0 f.0 f.1 old.1 tree.1 std.1 client.1 api.1 f.2)
              | inl except ↦ inl (
                record { old_tree = old.0; tree = tree.0; std_tree = std.0; client = client.0; required = api.0; exceptions = except.0 },
                record { old_tree = old.1; tree = tree.1; std_tree = std.1; client = client.1; required = api.1; exceptions = except.1 },
              )
            ])
          ])
        ])
      ])
    ])
  ])
