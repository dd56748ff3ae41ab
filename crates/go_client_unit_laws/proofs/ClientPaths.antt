-- The paths of the packages of a module with a client are elements.
use Rattle.std.proofs.Common.{◌≡◌, ◌≢◌, ◌<◌, ℕ, true, List, [], length, get_or, Ok, sym, subst, arith}
use mathlib.Core.Bool.{true≢false}
use Rattle.go_base.specs.Lists.{Has}
use Rattle.go_client_units.specs.ClientUnits.{AreClientUnits}
use Rattle.go_client_units.specs.declared.units.ClientUnits.{ClientUnits}
use Rattle.go_client_walks.proofs.WalkedFiles.{walked_rows}
use Rattle.go_imports.proofs.Members.{has_at}
use Rattle.go_model.specs.declared.files.platform.Platform.{Platform}
use Rattle.go_model.specs.declared.files.tree.Tree.{Tree}
use Rattle.go_model.specs.files.Trees.{IsTree, are_elements, begins_element, is_element}
use Rattle.go_model.specs.types.Terms.{client_path}
use Rattle.go_reading.proofs.UnitPaths.{tree_elements}
use Rattle.go_reading.specs.TreeFolders.{ReadsFolder}
use Rattle.go_units.proofs.WalkedFiles.{slot_within}
use Rattle.go_units.specs.Folders.{no_folder}
use Rattle.go_units.specs.declared.unit.«Unit».{«Unit» as PackageUnit}

elements_some : (path : List ℕ) → are_elements path ≡ true → path ≢ []
unfolding is_element begins_element
elements_some path e n = true≢false (sym (subst (λ (w : List ℕ). are_elements w ≡ true) n e))

elements_foreign : (path : List ℕ) → are_elements path ≡ true → path ≢ client_path
unfolding is_element begins_element
elements_foreign path e n = true≢false (sym (subst (λ (w : List ℕ). are_elements w ≡ true) n e))

module _ (p : Platform) (barred : List (List ℕ)) (tree std_tree client : Tree) (is_tree : IsTree tree) (is_std : IsTree std_tree) (some_module : tree.module ≢ []) where
  unit_elements : (r : ClientUnits) → AreClientUnits p barred tree std_tree client (Ok r) → (u : PackageUnit) → Has r.packages.packages u → are_elements u.path ≡ true
  unit_elements r a u h =
      let folders = a.0 in
      let list = a.2.0 in
      let all = a.2.2 in
      let k = all.packages.sound u h in
      let n = k.0 in
      let l = slot_within all.slots n k.1.members k.1.held in
      let rows = walked_rows list.files tree.module folders (ReadsFolder p barred tree std_tree folders) all.read.walked in
      let within : n < length folders = omega (arith, l, rows) in
      subst (λ (w : List ℕ). are_elements w ≡ true) (sym k.1.path) (tree_elements p barred tree std_tree is_tree is_std some_module (get_or folders n no_folder) (a.1.sound (get_or folders n no_folder) (has_at folders n no_folder within)))

  pub unit_path : (r : ClientUnits) → AreClientUnits p barred tree std_tree client (Ok r) → (u : PackageUnit) → Has r.packages.packages u → (u.path ≢ []) × (u.path ≢ client_path)
  unit_path r a u h = let k = unit_elements r a u h in (elements_some u.path k, elements_foreign u.path k)
