-- What the reads of a run may answer over a store: where it tells files, what these give; and over any store, trees keep their limits and no file
-- is larger than what was asked for.
-- Own: this project's inputs.
use Rattle.std.specs.Prelude.{◌≡◌, ◌≤◌, ◌-◌, ◌^◌, min, ℕ, Option, Some, None, List, [], length, Result, Ok, IfOk}
use Rattle.std.specs.FinMap.{get}
use Rattle.go_load.specs.Loads.{LoadsFiles, LoadsModule}
use Rattle.go_load.specs.declared.error.LoadError.{LoadError}
use Rattle.go_load.specs.declared.kind.TreeKind.TheVariants as kind
use Rattle.go_model.specs.declared.files.tree.Tree.{Tree}
use Rattle.go_model.specs.files.Trees.{IsModulePath, IsTree}
use Rattle.go_outside.specs.Faults.{Told}
use Rattle.go_outside.specs.Stores.{AnswersRead, Contents}
use Rattle.go_outside.specs.declared.files.FilesError.{FilesError}

-- the load of a module's tree may answer this
pub record MayLoad (told : Option Contents) (root : List ℕ) (answer : Result Tree LoadError) : Type 0 where
  pub loaded : Told told (λ m. LoadsModule m root answer)
  pub tree : IfOk answer IsTree
  pub module_path : IfOk answer (λ t. IsModulePath t.«module»)

-- the load of the standard library's tree may answer this
pub record MayLoadStd (told : Option Contents) (root : List ℕ) (answer : Result Tree LoadError) : Type 0 where
  pub loaded : Told told (λ m. LoadsFiles m kind.Std root answer)
  pub tree : IfOk answer IsTree

-- the load of a client's folder may answer this
pub record MayLoadClient (told : Option Contents) (root : List ℕ) (answer : Result Tree LoadError) : Type 0 where
  pub loaded : Told told (λ m. LoadsFiles m kind.Client root answer)
  pub tree : IfOk answer IsTree

-- a tree without files
abbrev pub no_tree : Tree
no_tree = record { «module» = []; files = [] }

-- where no folder is given, the tree has no files
abbrev pub MayHaveStd : Option Contents → Option (List ℕ) → Result Tree LoadError → Type 0
MayHaveStd told None answer = answer ≡ Ok no_tree
MayHaveStd told (Some root) answer = MayLoadStd told root answer

-- how many bytes a file of frozen lines may have
abbrev pub most_frozen : ℕ
most_frozen = 16777216

-- the read of a file of frozen lines may answer this
pub record MayRead (told : Option Contents) (path : List ℕ) (answer : Result (List ℕ) FilesError) : Type 0 where
  pub bytes : Told told (λ m. AnswersRead (get m path) most_frozen answer)
  pub small : IfOk answer (λ bytes. length bytes ≤ most_frozen)

-- a count of faults didn't fall, up to the last value of its type
abbrev pub NeverFell : ℕ → ℕ → Type 0
NeverFell before now = min before (2 ^ 64 - 1) ≤ now
