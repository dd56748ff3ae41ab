-- What the functions do that gather the files of a tree.
use Rattle.std.specs.Prelude.{◌≡◌, ◌≤◌, ◌+◌, ℕ, Bool, true, false, List, ◌++◌, length, bytes_eq}
use Rattle.std.specs.BTreeMap.{btree_map_len, IsOrdered}
use Rattle.std.specs.Cmp.Lexicographic.{slice_cmp}
use Rattle.std.specs.Ordering.{nat_cmp}
use Rattle.std.specs.List.{filter}
use Rattle.go_model.specs.declared.files.tree.Tree.{Tree}
use Rattle.go_model.specs.declared.files.tree.TreeFile.{TreeFile}
use Rattle.go_reading.specs.TreeFolders.{import_path, IsIgnored}
use Rattle.go_reading.specs.inner.Groups.{Groups, files_in, AreFull}

-- the folder with this path isn't ignored
abbrev pub IsKept : List (List ℕ) → Bool → List ℕ → Type 0
IsKept barred true path = IsIgnored barred path → ⊥
IsKept barred false path = Unit {0}

-- those of the files that stand in the folder with an import path
abbrev pub standing_at : List ℕ → Bool → List ℕ → List TreeFile → List TreeFile
standing_at module_path from_std path files = filter (λ (f : TreeFile). bytes_eq (import_path module_path from_std f.folder) path) files

-- the files went to the groups of their paths
pub record Gathers (module_path : List ℕ) (barred : List (List ℕ)) (from_std : Bool) (files : List TreeFile) (old new : Groups) : Type 0 where
  pub more : (path : List ℕ) → IsKept barred from_std path → files_in new path ≡ files_in old path ++ standing_at module_path from_std path files
  pub others : (path : List ℕ) → (IsKept barred from_std path → ⊥) → files_in new path ≡ files_in old path

-- the files of the two trees, by the paths of their folders
pub record AreGathered (barred : List (List ℕ)) (tree std_tree : Tree) (groups : Groups) : Type 0 where
  pub kept : (path : List ℕ) → (IsIgnored barred path → ⊥) → files_in groups path ≡ standing_at tree.module false path tree.files ++ standing_at tree.module true path std_tree.files
  pub ignored : (path : List ℕ) → IsIgnored barred path → files_in groups path ≡ standing_at tree.module false path tree.files
  pub full : AreFull groups
  pub few : btree_map_len groups ≤ length tree.files + length std_tree.files
  pub ordered : IsOrdered (slice_cmp nat_cmp) groups
