-- What the loads of one tree answer.
-- Own: the order in which a load is refused.
use Rattle.std.specs.Prelude.{◌≡◌, ◌≢◌, ◌≤◌, ◌<◌, ◌⊎◌, ℕ, Option, Some, None, List, [], length, Result, Ok, Err}
use Rattle.std.specs.FinMap.{get}
use Rattle.go_model.specs.files.Trees.{most}
use Rattle.go_model.specs.declared.files.tree.Tree.{Tree}
use Rattle.go_model.specs.declared.files.tree.TreeFile.{TreeFile}
use Rattle.go_model.specs.declared.files.tree.LimitName.{LimitName}
use Rattle.go_model.specs.declared.files.tree.LimitName.TheVariants as limit
use Rattle.go_outside.specs.Faults.{Rose}
use Rattle.go_outside.specs.Paths.{Path}
use Rattle.go_outside.specs.Stores.{Contents}
use Rattle.go_load.specs.Names.{go_mod, entry_path}
use Rattle.go_load.specs.GoMod.{IsModuleOf}
use Rattle.go_load.specs.Walk.{IsThere, Event, Walked, Reaches, IsWhole, first_refusal, no_counts}
use Rattle.go_load.specs.declared.error.LoadError.{LoadError}
use Rattle.go_load.specs.declared.error.LoadError.TheVariants as error
use Rattle.go_load.specs.declared.kind.TreeKind.{TreeKind}
use Rattle.go_load.specs.declared.kind.TreeKind.TheVariants as kind

module _ (m : Contents) (tree : TreeKind) (root : Path) where
  -- all candidate files of the tree, in order of folders and of names, and none of its counts passes its number
  abbrev pub AreFiles : List TreeFile → Type 0
  AreFiles files = (listed : List Path) × (es : List Event) × Walked m tree root listed files es × IsWhole m tree root listed × (first_refusal no_counts es ≡ None)

  -- in the order of the walk, this count is the first that passes its number, at this path
  abbrev pub PassesIn : LimitName → Path → Type 0
  PassesIn name path = (es : List Event) × Reaches m tree root es × (first_refusal no_counts es ≡ Some (name, path))

  -- what the walk answers, where the files are told
  abbrev pub Walks : Result (List TreeFile) LoadError → Type 0
  Walks (Ok files) = IsThere m root × AreFiles files
  Walks (Err (error.Missing path)) = (IsThere m root → ⊥) × (path ≡ [])
  Walks (Err error.NoModule) = ⊥
  Walks (Err error.BadModule) = ⊥
  Walks (Err (error.Limit name path)) = IsThere m root × PassesIn name path
  Walks (Err error.ReadFault) = Unit {0}
  Walks (Err error.NoMemory) = Unit {0}

-- a tree without a module
abbrev pub LoadsFiles : Contents → TreeKind → Path → Result Tree LoadError → Type 0
LoadsFiles m tree root (Ok t) = (t.module ≡ []) × Walks m tree root (Ok t.files)
LoadsFiles m tree root (Err e) = Walks m tree root (Err e)

module _ (m : Contents) (root : Path) where
  -- what is told of the module's `go.mod`
  abbrev pub told_module : Option (List ℕ)
  told_module = get m (entry_path root [] go_mod)

  -- a `go.mod` of at most so many bytes that names this module
  abbrev pub IsModuleAt : Path → Type 0
  IsModuleAt path = (bytes : List ℕ) × (told_module ≡ Some bytes) × (length bytes ≤ most limit.FileBytes) × IsModuleOf bytes path

  -- `go.mod` is read before the walk, so a limit is passed there, or else in the walk
  abbrev pub Passes : LimitName → Path → Type 0
  Passes name path = ((bytes : List ℕ) × (told_module ≡ Some bytes) × (most limit.FileBytes < length bytes) × (name ≡ limit.FileBytes) × (path ≡ go_mod))
      ⊎ (((own : Path) × IsModuleAt own) × PassesIn m kind.Module root name path)

  -- what the load of a module answers; the cases exclude each other, but for a fault and want of memory
  abbrev pub LoadsModule : Result Tree LoadError → Type 0
  LoadsModule (Ok t) = IsModuleAt t.module × AreFiles m kind.Module root t.files
  LoadsModule (Err (error.Missing path)) = (IsThere m root → ⊥) × (path ≡ [])
  LoadsModule (Err error.NoModule) = IsThere m root × (told_module ≡ None)
  LoadsModule (Err error.BadModule) = (bytes : List ℕ) × (told_module ≡ Some bytes) × (length bytes ≤ most limit.FileBytes) × ((path : Path) → IsModuleOf bytes path → ⊥)
  LoadsModule (Err (error.Limit name path)) = Passes name path
  LoadsModule (Err error.ReadFault) = Unit {0}
  LoadsModule (Err error.NoMemory) = Unit {0}

-- a fault of reading comes only where the count of faults rose, and that count never falls
abbrev pub LoadCause : {A : Type 0} → ℕ → ℕ → Result A LoadError → Type 0
LoadCause before now (Err error.ReadFault) = Rose before now
LoadCause before now _ = before ≤ now

-- only the load of a module speaks of its `go.mod`
abbrev pub IsOfWalk : LoadError → Type 0
IsOfWalk e = (e ≢ error.NoModule) × (e ≢ error.BadModule)
