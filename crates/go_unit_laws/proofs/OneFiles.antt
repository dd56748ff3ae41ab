-- The files of a package are one list, and the first internal import in them is one.
use Rattle.std.proofs.Common.{◌≡◌, ℕ, Bool, Option, Some, None, List, [], ◌∷◌, refl, sym, ap, ◌∙◌, inl, inr}
use Rattle.go_base.specs.Growing.{Grows}
use Rattle.go_base.specs.Lists.{Has}
use Rattle.go_imports.specs.InternalUses.{IsFirstInternalImport}
use Rattle.go_imports.specs.declared.package_files.SourceFile.{SourceFile}
use Rattle.go_imports.specs.declared.used_imports.NamedImport.{NamedImport}
use Rattle.go_unit_laws.proofs.OneUses.{one_uses}
use Rattle.go_unit_laws.proofs.Snocs.{gives_both}
use Rattle.go_units.specs.Folders.{AreOrdered}
use Rattle.go_units.specs.PackageUses.{ArePackageFiles, AreFree, GivesFile, IsDeclaredAmong, IsFirstInternal}
use Rattle.go_units.specs.declared.folder.Folder.{Folder}
use Rattle.go_units.specs.declared.package_uses.PackageFile.{PackageFile}

module _ (module_path : List ℕ) (folders : List Folder) (ordered : AreOrdered folders) (from_std : Bool) where
  module _ (ds es : List (List ℕ)) (to : (x : List ℕ) → Has ds x → Has es x) (from : (x : List ℕ) → Has es x → Has ds x) where
    one_file : (s : SourceFile) (r t : Option PackageFile) → GivesFile module_path folders from_std ds s r → GivesFile module_path folders from_std es s t → r ≡ t
    one_file s None None a b = refl
    one_file s None (Some g) a b = absurd (b.0 a)
    one_file s (Some f) None a b = absurd (a.0 b)
    one_file s (Some f) (Some g) a b =
        let path : f.path ≡ g.path = a.1 ∙ sym b.1 in
        let outline : f.outline ≡ g.outline = a.2 ∙ sym b.2 in
        let uses : f.uses ≡ g.uses = one_uses module_path folders ordered from_std ds es s.outline f.uses g.uses to from a.3 b.3 in
        (λ n. Some (record { path = path n; outline = outline n; uses = uses n }))

  same_members : (sources : List SourceFile) (xs ys : List (List ℕ)) → Grows (IsDeclaredAmong sources) [] xs → Grows (IsDeclaredAmong sources) [] ys → (t : List ℕ) → Has xs t → Has ys t
  same_members sources xs ys g h t m = elim (g.sound t m) [ inl never ↦ absurd never | inr p ↦ h.complete t p ]

  pub one_files : (sources : List SourceFile) (fs gs : List PackageFile) → ArePackageFiles module_path folders from_std sources fs → ArePackageFiles module_path folders from_std sources gs → fs ≡ gs
  one_files sources fs gs a b =
      gives_both (GivesFile module_path folders from_std a.names) (GivesFile module_path folders from_std b.names)
      (one_file a.names b.names (same_members sources a.names b.names a.declared b.declared) (same_members sources b.names a.names b.declared a.declared))
      sources fs gs a.given b.given

-- ---- the first internal import

some : (m n : ℕ) → ◌≡◌ {A = Option ℕ} (Some m) (Some n) → m ≡ n
some m n e = cc

module _ (path : List ℕ) (from_std : Bool) where
  one_internal : (us : List NamedImport) (r s : Option ℕ) → IsFirstInternalImport path from_std us r → IsFirstInternalImport path from_std us s → r ≡ s
  one_internal [] None None a b = refl
  one_internal [] None (Some n) a b = absurd b
  one_internal [] (Some m) s a b = absurd a
  one_internal (u ∷ us) None None a b = refl
  one_internal (u ∷ us) None (Some n) a (inl b) = absurd (a.0 b.0)
  one_internal (u ∷ us) None (Some n) a (inr b) = one_internal us None (Some n) a.1 b.1
  one_internal (u ∷ us) (Some m) None (inl a) b = absurd (b.0 a.0)
  one_internal (u ∷ us) (Some m) None (inr a) b = one_internal us (Some m) None a.1 b.1
  one_internal (u ∷ us) (Some m) (Some n) (inl a) (inl b) = ap Some (sym a.1 ∙ b.1)
  one_internal (u ∷ us) (Some m) (Some n) (inl a) (inr b) = absurd (b.0 a.0)
  one_internal (u ∷ us) (Some m) (Some n) (inr a) (inl b) = absurd (a.0 b.0)
  one_internal (u ∷ us) (Some m) (Some n) (inr a) (inr b) = one_internal us (Some m) (Some n) a.1 b.1

  none_here : (us : List NamedImport) (n : ℕ) → IsFirstInternalImport path from_std us None → IsFirstInternalImport path from_std us (Some n) → ⊥
  none_here us n a b = absurd (let e = one_internal us None (Some n) a b in cc)

  pub one_place : (fs : List PackageFile) (f g : List ℕ) (m n : ℕ) → IsFirstInternal path from_std fs f m → IsFirstInternal path from_std fs g n → (f ≡ g) × (m ≡ n)
  one_place [] f g m n a b = absurd a
  one_place (x ∷ fs) f g m n (inl a) (inl b) = (sym a.0 ∙ b.0, some m n (one_internal x.uses (Some m) (Some n) a.1 b.1))
  one_place (x ∷ fs) f g m n (inl a) (inr b) = absurd (none_here x.uses m b.0 a.1)
  one_place (x ∷ fs) f g m n (inr a) (inl b) = absurd (none_here x.uses n a.0 b.1)
  one_place (x ∷ fs) f g m n (inr a) (inr b) = one_place fs f g m n a.1 b.1

  pub free_or_internal : (fs : List PackageFile) (f : List ℕ) (n : ℕ) → AreFree path from_std fs → IsFirstInternal path from_std fs f n → ⊥
  free_or_internal [] f n a b = b
  free_or_internal (x ∷ fs) f n a (inl b) = none_here x.uses n (a x (inl refl)) b.1
  free_or_internal (x ∷ fs) f n a (inr b) = free_or_internal fs f n (λ y h. a y (inr h)) b.1
