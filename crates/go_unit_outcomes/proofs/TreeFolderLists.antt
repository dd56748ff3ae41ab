-- Trees have a list of folders.
use Rattle.std.proofs.Common.{◌≡◌, ◌≢◌, ◌⊎◌, ℕ, suc, ◌<◌, ◌≤◌, ◌+◌, Bool, true, false, List, [], ◌∷◌, ◌++◌, length, map, Option, refl, sym, ap, ◌∙◌, subst, inl, inr, arith, length-append}
use Rattle.std.specs.List.{filter}
use Rattle.std.specs.Str.{bytes_eq}
use Rattle.std.specs.Cmp.Lexicographic.{bytes_decides}
use Rattle.go_base.proofs.Members.{each_has}
use Rattle.go_base.specs.Lists.{Ascending, Before, Each, Has}
use Rattle.std.specs.Prelude.{if◌then◌else◌}
use Rattle.go_imports.specs.ImportPaths.{IsUnder}
use Rattle.go_existence.specs.Existence.{AreFinite, NotNone}
use Rattle.go_existence.proofs.DoubleNegation.{so}
use Rattle.go_existence.proofs.FiniteSets.{finite_image, finite_less, finite_list, finite_one, finite_or, finite_over, has_left, has_map, has_right, without}
use Rattle.go_existence.proofs.OrderedTexts.{ascending, in_order}
use Rattle.go_model.specs.declared.files.platform.Platform.{Platform}
use Rattle.go_model.specs.declared.files.tree.Tree.{Tree}
use Rattle.go_model.specs.declared.files.tree.TreeFile.{TreeFile}
use Rattle.go_reading.proofs.FilesByName.{by_name_from, one_way}
use Rattle.go_reading.specs.FolderReadings.{IsPackageName}
use Rattle.go_reading.specs.TreeFolders.{AreTreeFolders, IsTreeFolder, files_at, files_of, import_path}
use Rattle.go_units.specs.Folders.{path_of}
use Rattle.go_units.specs.declared.folder.Folder.{Folder}

-- ---- how many texts an ascending list has at most

no_back : (x : List ℕ) (xs : List (List ℕ)) → Each (Before x) xs → Has xs x → ⊥
no_back x xs up h = let b = each_has (Before x) xs x up h in one_way x x b b

pub short : (xs ys : List (List ℕ)) → Ascending xs → ((x : List ℕ) → Has xs x → Has ys x) → length xs ≤ length ys
short [] ys up f = omega arith
short (x ∷ xs) ys up f =
    let rest = without ys x (f x (inl refl)) in
    let l = short xs rest.0 up.1 (λ z h. elim (rest.2 z (f z (inr h))) [ inl e ↦ absurd (no_back x xs up.0 (subst (Has xs) (sym e) h)) | inr k ↦ k ]) in
    let e = rest.1 in omega (arith, l, e)

-- ---- folders

module _ (p : Platform) (barred : List (List ℕ)) (tree std_tree : Tree)
    (one : (files : List TreeFile) (a b : Option (List ℕ)) → IsPackageName p files a → IsPackageName p files b → a ≡ b)
    (own : (f : Folder) → IsTreeFolder p barred tree std_tree f → f.from_std ≡ false → IsUnder f.path tree.«module»)
    (std : (f : Folder) → IsTreeFolder p barred tree std_tree f → f.from_std ≡ true → IsUnder f.path tree.«module» → ⊥) where
  abbrev path_in : Bool → TreeFile → List ℕ
  path_in side f = import_path tree.«module» side f.folder

  abbrev paths_of : Bool → List (List ℕ)
  paths_of side = map (path_in side) (files_of p barred tree std_tree side)

  at_path : (side : Bool) (path : List ℕ) (fs : List TreeFile) (f : TreeFile) → Has (filter (λ (g : TreeFile). bytes_eq (path_in side g) path) fs) f → (path_in side f ≡ path) × Has fs f
  at_path side path [] f h = absurd h
  at_path side path (g ∷ fs) f h = by (bytes_eq (path_in side g) path) refl h (at_path side path fs f)
    where
      by : (b : Bool) → bytes_eq (path_in side g) path ≡ b
          → Has (if b then g ∷ filter (λ (x : TreeFile). bytes_eq (path_in side x) path) fs else filter (λ (x : TreeFile). bytes_eq (path_in side x) path) fs) f
          → (Has (filter (λ (x : TreeFile). bytes_eq (path_in side x) path) fs) f → (path_in side f ≡ path) × Has fs f) → (path_in side f ≡ path) × Has (g ∷ fs) f
      by true e (inl s) rest = (ap (path_in side) (sym s) ∙ (bytes_decides (path_in side g) path).0 e, inl s)
      by true e (inr k) rest = let r = rest k in (r.0, inr r.1)
      by false e k rest = let r = rest k in (r.0, inr r.1)

  first_of : (fs : List TreeFile) → fs ≢ [] → (f : TreeFile) × Has fs f
  first_of [] n = absurd (n refl)
  first_of (f ∷ fs) n = (f, inl refl)

  -- the path of a folder is that of a file's
  path_listed : (f : Folder) → IsTreeFolder p barred tree std_tree f → Has (paths_of f.from_std) f.path
  path_listed f is =
      let g = first_of (files_at p barred tree std_tree f.from_std f.path) is.some in
      let k = at_path f.from_std f.path (files_of p barred tree std_tree f.from_std) g.0 (by_name_from (filter (λ (x : TreeFile). bytes_eq (path_in f.from_std x) f.path) (files_of p barred tree std_tree f.from_std)) g.0 g.1) in
      subst (Has (paths_of f.from_std)) k.0 (has_map (path_in f.from_std) (files_of p barred tree std_tree f.from_std) g.0 k.1)

  abbrev IsAt : Bool → List ℕ → Folder → Type 0
  IsAt side path f = IsTreeFolder p barred tree std_tree f × (f.from_std ≡ side) × (f.path ≡ path)

  abbrev IsOn : Bool → Folder → Type 0
  IsOn side f = (path : List ℕ) × Has (paths_of side) path × IsAt side path f

  same_at : (side : Bool) (path : List ℕ) (f g : Folder) → IsAt side path f → IsAt side path g → f ≡ g
  same_at side path f g a b =
      let s : f.from_std ≡ g.from_std = a.1 ∙ sym b.1 in
      let q : f.path ≡ g.path = a.2 ∙ sym b.2 in
      let n : f.package_name ≡ g.package_name = one (files_at p barred tree std_tree g.from_std g.path) f.package_name g.package_name
      (subst (λ (k : Bool × List ℕ). IsPackageName p (files_at p barred tree std_tree k.0 k.1) f.package_name) (λ i. (s i, q i)) a.0.package_name) b.0.package_name in
      λ i. record { path = q i; from_std = s i; package_name = n i }

  on_finite : (side : Bool) → AreFinite (IsOn side)
  on_finite side = finite_over (Has (paths_of side)) (IsAt side) (finite_list (paths_of side)) (λ path h. finite_one (IsAt side path) (same_at side path))

  either_side : (f : Folder) → IsTreeFolder p barred tree std_tree f → (b : Bool) → f.from_std ≡ b → IsOn true f ⊎ IsOn false f
  either_side f is true e = inl (f.path, subst (λ (b : Bool). Has (paths_of b) f.path) e (path_listed f is), (is, e, refl))
  either_side f is false e = inr (f.path, subst (λ (b : Bool). Has (paths_of b) f.path) e (path_listed f is), (is, e, refl))

  folders_finite : AreFinite (IsTreeFolder p barred tree std_tree)
  folders_finite = finite_less (IsTreeFolder p barred tree std_tree) (λ f. IsOn true f ⊎ IsOn false f) (λ f is. either_side f is f.from_std refl) (finite_or (IsOn true) (IsOn false) (on_finite true) (on_finite false))

  -- a path is on one side alone
  same_side : (f g : Folder) → IsTreeFolder p barred tree std_tree f → IsTreeFolder p barred tree std_tree g → f.path ≡ g.path → (a b : Bool) → f.from_std ≡ a → g.from_std ≡ b → f.from_std ≡ g.from_std
  same_side f g i j e true true s t = s ∙ sym t
  same_side f g i j e false false s t = s ∙ sym t
  same_side f g i j e true false s t = absurd (std f i s (subst (λ (q : List ℕ). IsUnder q tree.«module») (sym e) (own g j t)))
  same_side f g i j e false true s t = absurd (std g j t (subst (λ (q : List ℕ). IsUnder q tree.«module») e (own f i s)))

  same_folder : (f g : Folder) → IsTreeFolder p barred tree std_tree f → IsTreeFolder p barred tree std_tree g → f.path ≡ g.path → f ≡ g
  same_folder f g i j e = same_at g.from_std g.path f g (i, same_side f g i j e f.from_std g.from_std refl refl, e) (j, refl, refl)

  in_some : (f : Folder) → IsTreeFolder p barred tree std_tree f → (b : Bool) → f.from_std ≡ b → Has (paths_of false ++ paths_of true) f.path
  in_some f is true e = has_right (paths_of false) (paths_of true) f.path (subst (λ (b : Bool). Has (paths_of b) f.path) e (path_listed f is))
  in_some f is false e = has_left (paths_of false) (paths_of true) f.path (subst (λ (b : Bool). Has (paths_of b) f.path) e (path_listed f is))

  mapped_from : (fs : List Folder) (path : List ℕ) → Has (map path_of fs) path → (f : Folder) × Has fs f × (f.path ≡ path)
  mapped_from [] path h = absurd h
  mapped_from (g ∷ fs) path (inl e) = (g, inl refl, e)
  mapped_from (g ∷ fs) path (inr h) = let r = mapped_from fs path h in (r.0, inr r.1, r.2)

  length_mapped : {A B : Type 0} (f : A → B) (xs : List A) → length (map f xs) ≡ length xs
  length_mapped f [] = refl
  length_mapped f (x ∷ xs) = ap suc (length_mapped f xs)

  few_of : (folders : List Folder) → AreTreeFolders p barred tree std_tree folders → length folders ≤ length tree.files + length std_tree.files
  few_of folders a =
      let l = short (map path_of folders) (paths_of false ++ paths_of true) a.ordered (λ path h. let f = mapped_from folders path h in subst (Has (paths_of false ++ paths_of true)) f.2 (in_some f.0 (a.sound f.0 f.1) f.0.from_std refl)) in
      let i = length-append (paths_of false) (paths_of true) in
      let j = length_mapped path_of folders in
      let k = length_mapped (path_in false) tree.files in
      let m = length_mapped (path_in true) std_tree.files in
      omega (arith, l, i, j, k, m)

  pub tree_folders : NotNone ((folders : List Folder) × AreTreeFolders p barred tree std_tree folders × (length folders ≤ length tree.files + length std_tree.files))
  tree_folders = so (in_order path_of (IsTreeFolder p barred tree std_tree) folders_finite) (λ k.
      let are : AreTreeFolders p barred tree std_tree k.0 = record {
        ordered = ascending path_of k.0 k.2;
        sound = k.1.sound;
        complete = λ f is. (let g = k.1.complete f is in subst (Has k.0) (same_folder g.0 f (k.1.sound g.0 g.1) is g.2) g.1);
      } in
      (k.0, are, few_of k.0 are))
