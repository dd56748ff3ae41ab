-- The walk over the told files of one tree: its folders, their candidate files, and the order of all that counts for a limit.
-- Public source: `go list` and go/build for what is ignored, as in Names. The order and the limits are own.
-- That the answers over one store agree is stated at the public calls.
use Rattle.std.specs.Prelude.{◌≡◌, ℕ, ◌+◌, Bool, true, false, nat_le, if◌then◌else◌, Option, Some, None, unwrap_or, List, [], ◌∷◌, ◌++◌, length, map}
use Rattle.std.specs.FinMap.{get}
use Rattle.go_base.specs.Lists.{Has, Ascending, Before}
use Rattle.go_model.specs.files.Trees.{most}
use Rattle.go_model.specs.declared.files.tree.TreeFile.{TreeFile}
use Rattle.go_model.specs.declared.files.tree.LimitName.{LimitName}
use Rattle.go_model.specs.declared.files.tree.LimitName.TheVariants as limit
use Rattle.go_outside.specs.Paths.{Path}
use Rattle.go_outside.specs.Stores.{Contents, IsTold}
use Rattle.go_load.specs.Names.{is_walked, is_candidate, go_mod, under, entry_path}
use Rattle.go_load.specs.declared.kind.TreeKind.{TreeKind}
use Rattle.go_load.specs.declared.kind.TreeKind.TheVariants as kind
use Rattle.go_load.specs.declared.counts.Counts.{Counts}

-- a folder is there where some told path begins with its path and `/`
abbrev pub IsThere : Contents → Path → Type 0
IsThere m folder = (rest : Path) × IsTold m (folder ++ 47 ∷ rest)

-- whether the folders below the root are walked: not those of a client
abbrev pub is_deep : TreeKind → Bool
is_deep kind.Module = true
is_deep kind.Std = true
is_deep kind.Client = false

-- whether a folder's files are taken: not those in the root of a std tree
abbrev pub takes_files : TreeKind → Path → Bool
takes_files kind.Module folder = true
takes_files kind.Client folder = true
takes_files kind.Std [] = false
takes_files kind.Std (b ∷ bs) = true

module _ (m : Contents) (tree : TreeKind) (root : Path) where
  -- a folder below the root of a module that is the root of another module, and so ignored
  abbrev pub IsOtherModule : Path → Type 0
  IsOtherModule [] = ⊥
  IsOtherModule (b ∷ bs) = (tree ≡ kind.Module) × IsTold m (entry_path root (b ∷ bs) go_mod)

  -- a folder that lies in another by a name that is walked, and isn't a file there as well
  pub record IsChild (folder name : Path) : Type 0 where
    pub deep : is_deep tree ≡ true
    pub own : IsOtherModule folder → ⊥
    pub walked : is_walked name ≡ true
    pub there : IsThere m (entry_path root folder name)
    pub alone : IsTold m (entry_path root folder name) → ⊥

  -- the folders of the walk
  pub data IsFolder : Path → Type 0 where
    top : IsFolder []
    sub : (folder name : Path) → IsFolder folder → IsChild folder name → IsFolder (under folder name)

  -- a file of a folder that is read
  pub record IsCandidate (folder name : Path) : Type 0 where
    pub taken : takes_files tree folder ≡ true
    pub own : IsOtherModule folder → ⊥
    pub named : is_candidate name ≡ true
    pub stored : IsTold m (entry_path root folder name)

  -- the names of a folder's candidate files, in the order of bytes
  pub record AreCandidates (folder : Path) (names : List Path) : Type 0 where
    pub ascending : Ascending names
    pub sound : (name : Path) → Has names name → IsCandidate folder name
    pub complete : (name : Path) → IsCandidate folder name → Has names name

  -- the least folder that isn't listed yet
  pub record IsNext (listed : List Path) (folder : Path) : Type 0 where
    pub is : IsFolder folder
    pub fresh : Has listed folder → ⊥
    pub least : (other : Path) → IsFolder other → (Has listed other → ⊥) → Before other folder → ⊥

-- the bytes that are told of a path
abbrev pub bytes_of : Contents → Path → List ℕ
bytes_of m path = unwrap_or (get m path) []

-- a file of the tree
abbrev pub file_of : Contents → Path → Path → Path → TreeFile
file_of m root folder name = record { folder = folder; name = name; bytes = bytes_of m (entry_path root folder name) }

abbrev pub files_of : Contents → Path → Path → List Path → List TreeFile
files_of m root folder names = map (file_of m root folder) names

-- what counts for a limit, at a path of the tree
pub record Event : Type 0 where
  pub limit : LimitName
  pub path : Path
  pub amount : ℕ

abbrev pub event : LimitName → Path → ℕ → Event
event name path n = record { limit = name; path = path; amount = n }

-- a file counts as one, then by its own bytes, then by its bytes beside those of all others
abbrev pub file_events : List TreeFile → List Event
file_events [] = []
file_events (f ∷ fs) = event limit.Files (under f.folder f.name) 1 ∷ event limit.FileBytes (under f.folder f.name) (length f.bytes) ∷ event limit.Bytes (under f.folder f.name) (length f.bytes) ∷ file_events fs

-- a folder with a candidate file counts as a package before its first one
abbrev pub package_events : Path → List TreeFile → List Event
package_events folder [] = []
package_events folder (f ∷ fs) = event limit.Packages folder 1 ∷ []

-- a folder counts before it is listed
abbrev pub folder_event : Path → Event
folder_event folder = event limit.Folders folder 1

abbrev pub events_of : Path → List TreeFile → List Event
events_of folder files = folder_event folder ∷ (package_events folder files ++ file_events files)

module _ (m : Contents) (tree : TreeKind) (root : Path) where
  -- the folders listed so far, the files of these, and all that counted: the next folder is always the least that isn't listed yet
  pub data Walked : List Path → List TreeFile → List Event → Type 0 where
    start : Walked [] [] []
    next : (listed : List Path) (files : List TreeFile) (es : List Event) (folder : Path) (names : List Path) → Walked listed files es → IsNext m tree root listed folder → AreCandidates m tree root folder names
        → Walked (listed ++ folder ∷ []) (files ++ files_of m root folder names) (es ++ events_of folder (files_of m root folder names))

  -- what counted up to some folder itself, or up to the last file of some folder
  pub data Reaches : List Event → Type 0 where
    before : (listed : List Path) (files : List TreeFile) (es : List Event) (folder : Path) → Walked listed files es → IsNext m tree root listed folder → Reaches (es ++ folder_event folder ∷ [])
    within : (listed : List Path) (files : List TreeFile) (es : List Event) → Walked listed files es → Reaches es

  -- no folder is left
  abbrev pub IsWhole : List Path → Type 0
  IsWhole listed = (folder : Path) → IsFolder m tree root folder → Has listed folder

-- a count under a limit with some more: a file's own bytes stand by themselves, all else adds up
abbrev pub count_with : Counts → LimitName → ℕ → ℕ
count_with c limit.FileBytes n = n
count_with c limit.Files n = c.files + n
count_with c limit.Bytes n = c.bytes + n
count_with c limit.Packages n = c.packages + n
count_with c limit.Folders n = c.folders + n

abbrev pub counts_with : Counts → LimitName → ℕ → Counts
counts_with c limit.FileBytes n = c
counts_with c limit.Files n = record c { files = c.files + n }
counts_with c limit.Bytes n = record c { bytes = c.bytes + n }
counts_with c limit.Packages n = record c { packages = c.packages + n }
counts_with c limit.Folders n = record c { folders = c.folders + n }

abbrev pub no_counts : Counts
no_counts = record { folders = 0; packages = 0; files = 0; bytes = 0 }

-- a limit and the path at which it is passed
abbrev pub Refusal : Type 0
Refusal = LimitName × Path

-- the first event at which a count passes its number, where so much was counted before
abbrev pub first_refusal : Counts → List Event → Option Refusal
first_refusal c [] = None
first_refusal c (e ∷ es) = if nat_le (count_with c e.limit e.amount) (most e.limit) then first_refusal (counts_with c e.limit e.amount) es else Some (e.limit, e.path)
