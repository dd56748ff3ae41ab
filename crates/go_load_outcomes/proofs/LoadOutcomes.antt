-- A load has an answer that is neither a fault nor want of memory.
use Rattle.std.proofs.Common.{◌≡◌, ◌⊎◌, ◌<◌, ◌≤◌, ℕ, List, [], length, Option, Some, None, Result, Ok, Err, refl, sym, inl, inr}
use Rattle.std.specs.FinMap.{get}
use Rattle.std.specs.Prelude.{IfOk}
use Rattle.go_existence.specs.Existence.{NotNone}
use Rattle.go_existence.proofs.DoubleNegation.{decided, less_or, so, sure, bind}
use Rattle.go_load.specs.Answers.{IsFree}
use Rattle.go_load.specs.GoMod.{IsModuleOf}
use Rattle.go_load.specs.Loads.{AreFiles, IsModuleAt, LoadsFiles, LoadsModule, PassesIn, told_module}
use Rattle.go_load.specs.Names.{go_mod}
use Rattle.go_load.specs.Walk.{IsThere, Refusal, first_refusal, no_counts, within}
use Rattle.go_load.specs.declared.error.LoadError.{LoadError}
use Rattle.go_load.specs.declared.error.LoadError.TheVariants as error
use Rattle.go_load.specs.declared.kind.TreeKind.{TreeKind}
use Rattle.go_load.specs.declared.kind.TreeKind.TheVariants as kind
use Rattle.go_load_outcomes.proofs.FolderWalks.{Whole, walk_ends}
use Rattle.go_load_outcomes.proofs.WalkedTrees.{few, held}
use Rattle.go_model.specs.declared.files.tree.LimitName.TheVariants as limit
use Rattle.go_model.specs.declared.files.tree.Tree.{Tree}
use Rattle.go_model.specs.declared.files.tree.TreeFile.{TreeFile}
use Rattle.go_model.specs.files.Trees.{IsModulePath, IsTree, IsTreeFile, most}
use Rattle.go_base.specs.Lists.{Each}
use Rattle.go_outside.specs.Paths.{Path}
use Rattle.go_outside.specs.Stores.{Contents}

module _ (m : Contents) (tree : TreeKind) (root : Path) where
  record Loaded (files : List TreeFile) : Type 0 where
    pub are : AreFiles m tree root files
    pub few : length files ≤ most limit.Files
    pub held : Each IsTreeFile files

  -- the files of the walk, or the first count that passes its number
  abbrev WalkEnds : Type 0
  WalkEnds = ((files : List TreeFile) × Loaded files) ⊎ ((r : Refusal) × PassesIn m tree root r.0 r.1)

  by_refusal : (w : Whole m tree root) (o : Option Refusal) → first_refusal no_counts w.events ≡ o → WalkEnds
  by_refusal w None e = inl (
    w.files,
    record {
      are = (w.listed, w.events, w.walked, w.whole, e);
      few = few m tree root w.listed w.files w.events w.walked e;
      held = held m tree root w.listed w.files w.events w.walked e;
    },
  )
  by_refusal w (Some r) e = inr (r, (w.events, within w.listed w.files w.events w.walked, e))

  walk_answers : NotNone WalkEnds
  walk_answers = so (walk_ends m tree root) (λ w. by_refusal w (first_refusal no_counts w.events) refl)

  abbrev FilesEnd : Result Tree LoadError → Type 0
  FilesEnd r = LoadsFiles m tree root r × (IsFree r → ⊥) × IfOk r IsTree

  pub files_end : NotNone ((r : Result Tree LoadError) × FilesEnd r)
  files_end = bind (decided (IsThere m root)) (λ d. elim d [
    | inr gone ↦ sure (Err (error.Missing []), ((gone, refl), (λ f. f), tt))
    | inl there ↦ so walk_answers (λ k. elim k [
      | inl fs ↦ (Ok (record { «module» = []; files = fs.0 }), ((refl, (there, fs.1.are)), (λ f. f), record { named = inl refl; few = fs.1.few; held = fs.1.held }))
      | inr p ↦ (Err (error.Limit p.0.0 p.0.1), ((there, p.1), (λ f. f), tt))
    ])
  ])

module _ (m : Contents) (root : Path) where
  abbrev ModuleEnd : Result Tree LoadError → Type 0
  ModuleEnd r = LoadsModule m root r × (IsFree r → ⊥) × IfOk r (λ t. IsTree t × IsModulePath t.«module»)

  abbrev Ends : Type 0
  Ends = (r : Result Tree LoadError) × ModuleEnd r

  of_module : (path : Path) → IsModuleAt m root path → IsModulePath path → NotNone Ends
  of_module path at is = so (walk_answers m kind.Module root) (λ k. elim k [
    | inl fs ↦ (Ok (record { «module» = path; files = fs.0 }), ((at, fs.1.are), (λ f. f), (record { named = inr is; few = fs.1.few; held = fs.1.held }, is)))
    | inr p ↦ (Err (error.Limit p.0.0 p.0.1), (inr ((path, at), p.1), (λ f. f), tt))
  ])

  of_told : (o : Option (List ℕ)) → told_module m root ≡ o → IsThere m root → NotNone Ends
  of_told None e there = sure (Err error.NoModule, ((there, e), (λ f. f), tt))
  of_told (Some bytes) e there = elim (less_or (most limit.FileBytes) (length bytes)) [
    | inl large ↦ sure (Err (error.Limit limit.FileBytes go_mod), (inl (bytes, e, large, refl, refl), (λ f. f), tt))
    | inr small ↦ bind (decided ((path : Path) × IsModuleOf bytes path)) (λ d. elim d [
      | inl path ↦ of_module path.0 (bytes, e, small, path.1) path.1.path_of
      | inr bad ↦ sure (Err error.BadModule, ((bytes, e, small, λ path is. bad (path, is)), (λ f. f), tt))
    ])
  ]

  pub module_end : NotNone Ends
  module_end = bind (decided (IsThere m root)) (λ d. elim d [
    | inr gone ↦ sure (Err (error.Missing []), ((gone, refl), (λ f. f), tt))
    | inl there ↦ of_told (told_module m root) refl there
  ])
