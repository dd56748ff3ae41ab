-- Two trees have one list of folders.
use Rattle.std.proofs.Common.{◌≡◌, ◌≢◌, ℕ, Bool, true, false, List, [], ◌∷◌, map, refl, sym, ap, ◌∙◌, subst, inl, inr}
use mathlib.Core.Bool.{true≢false}
use Rattle.go_base.proofs.Members.{each_has}
use Rattle.go_base.specs.Lists.{Has, Each, Before, Ascending}
use Rattle.go_imports.specs.ImportPaths.{IsUnder}
use Rattle.go_model.specs.declared.files.platform.Platform.{Platform}
use Rattle.go_model.specs.declared.files.tree.Tree.{Tree}
use Rattle.go_reading.proofs.FilesByName.{one_way}
use Rattle.go_reading.proofs.ListFacts.{has_mapped}
use Rattle.go_reading.proofs.TreeListing.{own_under}
use Rattle.go_reading.specs.FilesByName.{by_name}
use Rattle.go_reading.specs.TreeFolders.{files_at, IsTreeFolder, AreTreeFolders}
use Rattle.go_units.specs.Folders.{path_of}
use Rattle.go_units.specs.declared.folder.Folder.{Folder}

abbrev comes : Folder → List Folder → Type 0
comes f fs = Each (Before f.path) (map path_of fs)

later : (f g : Folder) (fs : List Folder) → comes f fs → Has fs g → Before f.path g.path
later f g fs c h = each_has (Before f.path) (map path_of fs) g.path c (has_mapped path_of fs g h)

-- a member of the rest of one list is one of the rest of the other
rest_of : (f g x : Folder) (fs gs : List Folder) → f ≡ g → comes f fs → Has fs x → Has (g ∷ gs) x → Has gs x
rest_of f g x fs gs e c h (inl s) = absurd (let b = subst (λ (w : List ℕ). Before w x.path) (ap path_of (e ∙ s)) (later f x fs c h) in one_way x.path x.path b b)
rest_of f g x fs gs e c h (inr k) = k

heads : (f g : Folder) (fs gs : List Folder) → comes f fs → comes g gs → Has (g ∷ gs) f → Has (f ∷ fs) g → f ≡ g
heads f g fs gs c d (inl e) k = sym e
heads f g fs gs c d (inr h) (inl e) = e
heads f g fs gs c d (inr h) (inr k) = absurd (one_way f.path g.path (later f g fs c k) (later g f gs d h))

-- ascending folders that are the same ones
pub one_list : (fs gs : List Folder) → Ascending (map path_of fs) → Ascending (map path_of gs) → ((f : Folder) → Has fs f → Has gs f) → ((f : Folder) → Has gs f → Has fs f) → fs ≡ gs
one_list [] [] a b to from = refl
one_list [] (g ∷ gs) a b to from = absurd (from g (inl refl))
one_list (f ∷ fs) [] a b to from = absurd (to f (inl refl))
one_list (f ∷ fs) (g ∷ gs) a b to from =
    let same = heads f g fs gs a.0 b.0 (to f (inl refl)) (from g (inl refl)) in
    let rest = one_list fs gs a.1 b.1 (λ x h. rest_of f g x fs gs same a.0 h (to x (inr h))) (λ x h. rest_of g f x gs fs (sym same) b.0 h (from x (inr h))) in
    λ i. same i ∷ rest i

module _ (p : Platform) (barred : List (List ℕ)) (tree std_tree : Tree) where
  pub one_folder_list : (a b : List Folder) → AreTreeFolders p barred tree std_tree a → AreTreeFolders p barred tree std_tree b → a ≡ b
  one_folder_list a b k l = one_list a b k.ordered l.ordered (λ f h. l.complete f (k.sound f h)) (λ f h. k.complete f (l.sound f h))

  own_by : (f : Folder) (s : Bool) → f.from_std ≡ s → files_at p barred tree std_tree s f.path ≢ [] → s ≡ false → IsUnder f.path tree.module
  own_by f true e n z = absurd (true≢false z)
  own_by f false e n z = own_under tree.module f.path tree.files (λ w. n (ap by_name w))

  -- a folder of the module stands under its path
  pub own_side : (f : Folder) → IsTreeFolder p barred tree std_tree f → f.from_std ≡ false → IsUnder f.path tree.module
  own_side f t e = own_by f f.from_std refl t.some e

  -- and one of the standard library doesn't
  pub std_side : Has barred tree.module → (f : Folder) → IsTreeFolder p barred tree std_tree f → f.from_std ≡ true → IsUnder f.path tree.module → ⊥
  std_side bars f t e u = (t.counts e).kept (inr (tree.module, bars, u))
