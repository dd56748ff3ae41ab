-- What the steps of a load do: words of the contracts inside this crate.
use Rattle.std.specs.Prelude.{◌≡◌, ◌≢◌, ◌≤◌, ◌<◌, ◌⊎◌, ℕ, Bool, true, Option, Some, None, List, [], ◌∷◌, ◌++◌, length, map, Result, Ok, Err}
use Rattle.std.specs.FinMap.{get}
use Rattle.go_base.specs.Growing.{Grows}
use Rattle.go_base.specs.Lists.{Has, Each, Ascending}
use Rattle.go_model.specs.files.Trees.{most, IsModulePath, IsTreeFile, IsFolderPath}
use Rattle.go_model.specs.declared.files.tree.TreeFile.{TreeFile}
use Rattle.go_model.specs.declared.files.tree.LimitName.TheVariants as limit
use Rattle.go_outside.specs.Paths.{Path}
use Rattle.go_outside.specs.Stores.{Contents, IsListing, IsTold}
use Rattle.go_outside.specs.declared.files.Entry.{Entry}
use Rattle.go_outside.specs.declared.files.EntryKind.TheVariants as entry
use Rattle.go_load.specs.Names.{is_walked, is_candidate, go_mod, under, folder_path}
use Rattle.go_load.specs.GoMod.{Names, IsModuleOf, IsWritten}
use Rattle.go_load.specs.Walk.{IsThere, is_deep, takes_files, IsChild, AreCandidates, bytes_of, files_of, Event, event, file_events, package_events, folder_event, events_of, first_refusal}
use Rattle.go_load.specs.Loads.{told_module, IsModuleAt}
use Rattle.go_load.specs.declared.counts.Counts.{Counts}
use Rattle.go_load.specs.declared.error.LoadError.{LoadError}
use Rattle.go_load.specs.declared.error.LoadError.TheVariants as error
use Rattle.go_load.specs.declared.kind.TreeKind.{TreeKind}
use Rattle.go_load.specs.declared.kind.TreeKind.TheVariants as kind
use Rattle.go_load.specs.declared.walk.Taken.{Taken}
use Rattle.go_load.specs.declared.walk.Wanted.{Wanted}
use Rattle.go_load.specs.declared.walk.Wanted.TheVariants as wanted

-- a written path without its quotes, which is the only path of a module that it can write
pub record IsUnquoted (written path : List ℕ) : Type 0 where
  pub writes : IsWritten written path
  pub only : (other : List ℕ) → IsModulePath other → IsWritten written other → other ≡ path

-- a module line names the path of a module
abbrev pub NamesModule : List ℕ → List ℕ → Type 0
NamesModule line path = Names line path × IsModulePath path

-- the path of a file or of a folder that isn't there, or that passes a limit
abbrev pub Reads : Option (List ℕ) → Path → Result (List ℕ) LoadError → Type 0
Reads held path (Ok bytes) = (held ≡ Some bytes) × (length bytes ≤ most limit.FileBytes)
Reads held path (Err (error.Missing p)) = (held ≡ None) × (p ≡ path)
Reads held path (Err error.NoModule) = ⊥
Reads held path (Err error.BadModule) = ⊥
Reads held path (Err (error.Limit name p)) = (bytes : List ℕ) × (held ≡ Some bytes) × (most limit.FileBytes < length bytes) × (name ≡ limit.FileBytes) × (p ≡ path)
Reads held path (Err error.ReadFault) = Unit {0}
Reads held path (Err error.NoMemory) = Unit {0}

abbrev pub Lists : Contents → Path → Path → Result (List Entry) LoadError → Type 0
Lists m at folder (Ok entries) = IsListing (IsTold m) at entries × (entries ≢ [])
Lists m at folder (Err (error.Missing p)) = (IsThere m at → ⊥) × (p ≡ folder)
Lists m at folder (Err error.NoModule) = ⊥
Lists m at folder (Err error.BadModule) = ⊥
Lists m at folder (Err (error.Limit name p)) = ⊥
Lists m at folder (Err error.ReadFault) = Unit {0}
Lists m at folder (Err error.NoMemory) = Unit {0}

-- reading the module of a tree
abbrev pub ReadsModule : Contents → Path → Result Path LoadError → Type 0
ReadsModule m root (Ok path) = IsModuleAt m root path
ReadsModule m root (Err (error.Missing path)) = (IsThere m root → ⊥) × (path ≡ [])
ReadsModule m root (Err error.NoModule) = IsThere m root × (told_module m root ≡ None)
ReadsModule m root (Err error.BadModule) = (bytes : List ℕ) × (told_module m root ≡ Some bytes) × (length bytes ≤ most limit.FileBytes) × ((path : Path) → IsModuleOf bytes path → ⊥)
ReadsModule m root (Err (error.Limit name path)) = (bytes : List ℕ) × (told_module m root ≡ Some bytes) × (most limit.FileBytes < length bytes) × (name ≡ limit.FileBytes) × (path ≡ go_mod)
ReadsModule m root (Err error.ReadFault) = Unit {0}
ReadsModule m root (Err error.NoMemory) = Unit {0}

-- the module that the bytes of a `go.mod` name
abbrev pub Parses : List ℕ → Result Path LoadError → Type 0
Parses bytes (Ok path) = IsModuleOf bytes path
Parses bytes (Err (error.Missing p)) = ⊥
Parses bytes (Err error.NoModule) = ⊥
Parses bytes (Err error.BadModule) = (path : Path) → IsModuleOf bytes path → ⊥
Parses bytes (Err (error.Limit name p)) = ⊥
Parses bytes (Err error.ReadFault) = ⊥
Parses bytes (Err error.NoMemory) = Unit {0}

-- looking for a `go.mod` in the root of a tree
abbrev pub FindsModule : Contents → Path → Result (Unit {0}) LoadError → Type 0
FindsModule m root (Ok u) = told_module m root ≢ None
FindsModule m root (Err (error.Missing p)) = (IsThere m root → ⊥) × (p ≡ [])
FindsModule m root (Err error.NoModule) = IsThere m root × (told_module m root ≡ None)
FindsModule m root (Err error.BadModule) = ⊥
FindsModule m root (Err (error.Limit name p)) = ⊥
FindsModule m root (Err error.ReadFault) = Unit {0}
FindsModule m root (Err error.NoMemory) = Unit {0}

-- a limit at a path, or want of memory
abbrev pub IsRefusal : LoadError → LoadError → Type 0
IsRefusal refusal e = (e ≡ refusal) ⊎ (e ≡ error.NoMemory)

-- these events are counted, or one of them is the first to pass a limit
abbrev pub Counted : List Event → Counts → Counts → Result (Unit {0}) LoadError → Type 0
Counted es old new (Ok u) = (rest : List Event) → first_refusal old (es ++ rest) ≡ first_refusal new rest
Counted es old new (Err (error.Limit name path)) = first_refusal old es ≡ Some (name, path)
Counted es old new (Err (error.Missing path)) = ⊥
Counted es old new (Err error.NoModule) = ⊥
Counted es old new (Err error.BadModule) = ⊥
Counted es old new (Err error.ReadFault) = ⊥
Counted es old new (Err error.NoMemory) = Unit {0}

abbrev pub file_entry : Path → Entry
file_entry name = record { name = name; kind = entry.File }

abbrev pub folder_entry : Path → Entry
folder_entry name = record { name = name; kind = entry.Folder }

-- which names of files are gathered
abbrev pub is_wanted : Wanted → Path → Bool
is_wanted wanted.All name = true
is_wanted wanted.Candidates name = is_candidate name

-- some entry gives the path
abbrev pub IsAny : (Entry → Path → Type 0) → List Entry → Path → Type 0
IsAny P entries x = (e : Entry) × Has entries e × P e x

abbrev pub IsNameOf : Wanted → Entry → Path → Type 0
IsNameOf w e x = (e.kind ≡ entry.File) × (is_wanted w e.name ≡ true) × (e.name ≡ x)

abbrev pub IsName : Wanted → List Entry → Path → Type 0
IsName w = IsAny (IsNameOf w)

-- a folder that the walk goes into, where these names are those of files
pub record IsWalked (files : List Path) (e : Entry) : Type 0 where
  pub folder : e.kind ≡ entry.Folder
  pub walked : is_walked e.name ≡ true
  pub alone : Has files e.name → ⊥

abbrev pub IsSubOf : Path → List Path → Entry → Path → Type 0
IsSubOf folder files e x = IsWalked files e × (under folder e.name ≡ x)

abbrev pub IsSub : Path → List Path → List Entry → Path → Type 0
IsSub folder files = IsAny (IsSubOf folder files)

-- a path that the walk finds in a folder
abbrev pub Enters : TreeKind → Path → List Entry → Path → Type 0
Enters tree folder entries x = (is_deep tree ≡ true) × ((e : Entry) × Has entries e × (e.kind ≡ entry.Folder) × (is_walked e.name ≡ true) × (Has entries (file_entry e.name) → ⊥) × (under folder e.name ≡ x))

-- a folder below the root of a module lists a file `go.mod`
pub record ListsModule (tree : TreeKind) (folder : Path) (entries : List Entry) : Type 0 where
  pub module_tree : tree ≡ kind.Module
  pub below : folder ≢ []
  pub listed : Has entries (file_entry go_mod)

-- a file as it is told in a folder
abbrev pub file_at : Contents → Path → Path → Path → TreeFile
file_at m at folder name = record { folder = folder; name = name; bytes = bytes_of m (at ++ 47 ∷ name) }

abbrev pub files_at : Contents → Path → Path → List Path → List TreeFile
files_at m at folder names = map (file_at m at folder) names

-- the package of a folder with these candidates
abbrev pub package_of : Path → List Path → List Event
package_of folder [] = []
package_of folder (n ∷ ns) = event limit.Packages folder 1 ∷ []

-- what counts for files, alone or with their package
abbrev pub with_package : Path → List TreeFile → List Event
with_package folder files = package_events folder files ++ file_events files

-- files of these names are read and counted, or one of them is the first to pass a limit
module _ (m : Contents) (at folder : Path) (events : List TreeFile → List Event) (names : List Path) (old new : Taken) where
  abbrev pub Takes : Result (Unit {0}) LoadError → Type 0
  Takes (Ok u) = (new.files ≡ old.files ++ files_at m at folder names) × ((rest : List Event) → first_refusal old.counts (events (files_at m at folder names) ++ rest) ≡ first_refusal new.counts rest)
  Takes (Err (error.Limit name path)) = first_refusal old.counts (events (files_at m at folder names)) ≡ Some (name, path)
  Takes (Err (error.Missing path)) = (name : Path) × Has names name × (get m (at ++ 47 ∷ name) ≡ None)
  Takes (Err error.NoModule) = ⊥
  Takes (Err error.BadModule) = ⊥
  Takes (Err error.ReadFault) = Unit {0}
  Takes (Err error.NoMemory) = Unit {0}

-- the names of the candidates among the entries of a folder
pub record AreNamed (tree : TreeKind) (folder : Path) (entries : List Entry) (names : List Path) : Type 0 where
  pub ascending : Ascending names
  pub sound : (name : Path) → Has names name → (takes_files tree folder ≡ true) × (is_candidate name ≡ true) × Has entries (file_entry name)
  pub complete : (name : Path) → takes_files tree folder ≡ true → is_candidate name ≡ true → Has entries (file_entry name) → Has names name

-- the candidates of a folder are taken
module _ (m : Contents) (tree : TreeKind) (at folder : Path) (entries : List Entry) (old new : Taken) where
  abbrev pub TakesAll : Result (Unit {0}) LoadError → Type 0
  TakesAll (Ok u) = (names : List Path) × AreNamed tree folder entries names × Takes m at folder (with_package folder) names old new (Ok u)
  TakesAll (Err (error.Limit name path)) = (names : List Path) × AreNamed tree folder entries names × Takes m at folder (with_package folder) names old new (Err (error.Limit name path))
  TakesAll (Err (error.Missing path)) = (names : List Path) × AreNamed tree folder entries names × Takes m at folder (with_package folder) names old new (Err (error.Missing path))
  TakesAll (Err error.NoModule) = ⊥
  TakesAll (Err error.BadModule) = ⊥
  TakesAll (Err error.ReadFault) = Unit {0}
  TakesAll (Err error.NoMemory) = Unit {0}

-- what is taken keeps the facts of a tree
pub record IsKept (taken : Taken) : Type 0 where
  pub counted : length taken.files ≡ taken.counts.files
  pub few : taken.counts.files ≤ most limit.Files
  pub held : Each IsTreeFile taken.files

-- a child of a folder, by its path in the tree
abbrev pub IsChildAt : Contents → TreeKind → Path → Path → Path → Type 0
IsChildAt m tree root folder x = (name : Path) × IsChild m tree root folder name × (under folder name ≡ x)

-- what a turn of the walk does with a folder
module _ (m : Contents) (tree : TreeKind) (root folder : Path) (pending pending' : List Path) (old new : Taken) where
  abbrev pub Visits : Result (Unit {0}) LoadError → Type 0
  Visits (Ok u) = (names : List Path) × IsThere m (folder_path root folder) × AreCandidates m tree root folder names × Grows (IsChildAt m tree root folder) pending pending'
      × (new.files ≡ old.files ++ files_of m root folder names) × ((rest : List Event) → first_refusal old.counts (events_of folder (files_of m root folder names) ++ rest) ≡ first_refusal new.counts rest)
  Visits (Err (error.Limit name path)) = (first_refusal old.counts (folder_event folder ∷ []) ≡ Some (name, path))
      ⊎ ((names : List Path) × IsThere m (folder_path root folder) × AreCandidates m tree root folder names × (first_refusal old.counts (events_of folder (files_of m root folder names)) ≡ Some (name, path)))
  Visits (Err (error.Missing path)) = (IsThere m (folder_path root folder) → ⊥) × (path ≡ folder)
  Visits (Err error.NoModule) = ⊥
  Visits (Err error.BadModule) = ⊥
  Visits (Err error.ReadFault) = Unit {0}
  Visits (Err error.NoMemory) = Unit {0}

-- all folders that are found and not yet listed have paths of folders
abbrev pub ArePlaced : List Path → Type 0
ArePlaced pending = (folder : Path) → Has pending folder → IsFolderPath folder
