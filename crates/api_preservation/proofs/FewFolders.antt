-- Trees that were read have few folders.
use Rattle.std.proofs.Common.{◌≡◌, ◌<◌, ℕ, List, length, ap, inl, inr, arith}
use Rattle.go_base.specs.Lists.{Has}
use Rattle.go_existence.proofs.DoubleNegation.{less_or}
use Rattle.go_model.specs.declared.files.platform.Platform.{Platform}
use Rattle.go_model.specs.declared.files.tree.Tree.{Tree}
use Rattle.go_model.specs.files.Trees.{IsTree}
use Rattle.go_reading.proofs.OneFolderList.{one_folder_list, own_side, std_side}
use Rattle.go_reading.proofs.PackageNames.{one_name}
use Rattle.go_reading.specs.TreeFolders.{AreTreeFolders}
use Rattle.go_tags.proofs.OneHeader.{cause_or_header, header_once}
use Rattle.go_unit_outcomes.proofs.TreeFolderLists.{tree_folders}
use Rattle.go_units.specs.declared.folder.Folder.{Folder}

module _ (p : Platform) (barred : List (List ℕ)) (tree std_tree : Tree) (is_tree : IsTree tree) (is_std : IsTree std_tree) where
  -- the folders of trees that were read are few
  pub few_folders : Has barred tree.module → (folders : List Folder) → AreTreeFolders p barred tree std_tree folders → length folders < 4294967296
  few_folders bars folders are = elim (less_or (length folders) 4294967296) [
    | inl few ↦ few
    | inr many ↦ absurd (tree_folders p barred tree std_tree (one_name header_once cause_or_header p) (own_side p barred tree std_tree) (std_side p barred tree std_tree bars) (λ k.
        let same : length folders ≡ length k.0 = ap length (one_folder_list p barred tree std_tree folders k.0 are k.1) in
        let few = k.2 in
        let a = is_tree.few in
        let b = is_std.few in omega (arith, same, few, a, b, many)))
  ]
