-- The unit of a folder is written in one way.
use Rattle.std.proofs.Common.{◌≡◌, ℕ, ◌<◌, Bool, true, false, Option, Some, None, List, [], ◌∷◌, length, refl, sym, ◌∙◌, subst, inl, arith}
use Rattle.std.specs.Prelude.{◌↔◌}
use Rattle.go_base.specs.Lists.{Has}
use Rattle.go_imports.specs.Gives.{Gives}
use Rattle.go_imports.specs.declared.used_imports.NamedImport.{NamedImport}
use Rattle.go_unit_laws.proofs.Snocs.{gives_both}
use Rattle.go_unit_laws.specs.WrittenUnits.{written}
use Rattle.go_units.proofs.FolderLookups.{at_once}
use Rattle.go_units.proofs.Giving.{gives_as_many}
use Rattle.go_units.proofs.WalkedFiles.{holds_some, slot_within, some_same}
use Rattle.go_units.specs.Folders.{AreOrdered, folder_of}
use Rattle.go_units.specs.Reached.{ReadFolders, is_std}
use Rattle.go_units.specs.UnitFacts.{UnitFilesAreNamed}
use Rattle.go_units.specs.UnitsOfModules.{AreUnits, GivesUnitFile, GivesUse, HoldsPackage, IsUnitOf, packages_in}
use Rattle.go_units.specs.declared.folder.Folder.{Folder}
use Rattle.go_units.specs.declared.package_uses.PackageFile.{PackageFile}
use Rattle.go_units.specs.declared.unit.«Unit».{«Unit» as PackageUnit}
use Rattle.go_units.specs.declared.unit.UnitFile.{UnitFile}
use Rattle.go_units.specs.declared.unit.UsedImport.{UsedImport}

same_flag : {P : Type 0} (a b : Bool) → ((a ≡ true) ↔ P) → ((b ≡ true) ↔ P) → a ≡ b
same_flag true true f g = refl
same_flag true false f g = sym (g.1 (f.0 refl))
same_flag false true f g = f.1 (g.0 refl)
same_flag false false f g = refl

one_package_name : (files : List UnitFile) (a b : List ℕ) → 0 < length files → UnitFilesAreNamed files a → UnitFilesAreNamed files b → a ≡ b
one_package_name [] a b h f g = absurd (omega (arith, h))
one_package_name (x ∷ files) a b h f g = sym (f x (inl refl)) ∙ g x (inl refl)

module _ (module_path : List ℕ) (folders : List Folder) (ordered : AreOrdered folders) (slots : ReadFolders) (rows : length slots ≡ length folders) where
  module _ (from_std : Bool) where
    one_use : (u : NamedImport) (r s : Option UsedImport) → GivesUse module_path folders (packages_in slots) from_std u r → GivesUse module_path folders (packages_in slots) from_std u s → r ≡ s
    one_use u None s a b = absurd a
    one_use u (Some i) None a b = absurd b
    one_use u (Some i) (Some j) a b =
        let name : i.name ≡ j.name = a.names ∙ sym b.names in
        let path : i.path ≡ j.path = a.path ∙ sym b.path in
        let place : i.place ≡ j.place = a.place ∙ sym b.place in
        let found : i.found ≡ j.found = same_flag i.found j.found a.is_found b.is_found in
        (λ n. Some (record { name = name n; path = path n; found = found n; place = place n }))

    one_file : (f : PackageFile) (r s : Option UnitFile) → GivesUnitFile module_path folders (packages_in slots) from_std f r → GivesUnitFile module_path folders (packages_in slots) from_std f s → r ≡ s
    one_file f None s a b = absurd a
    one_file f (Some g) None a b = absurd b
    one_file f (Some g) (Some h) a b =
        let path : g.path ≡ h.path = a.path ∙ sym b.path in
        let outline : g.outline ≡ h.outline = a.reads ∙ sym b.reads in
        let imports : g.imports ≡ h.imports = gives_both (GivesUse module_path folders (packages_in slots) from_std) (GivesUse module_path folders (packages_in slots) from_std) one_use f.uses g.imports h.imports a.given b.given in
        (λ n. Some (record { path = path n; outline = outline n; imports = imports n }))

  IsOf : ℕ → PackageUnit → Type 0
  IsOf n u = IsUnitOf module_path folders slots n u

  pub one_unit : (n : ℕ) (u v : PackageUnit) → IsUnitOf module_path folders slots n u → IsUnitOf module_path folders slots n v → written u ≡ written v
  one_unit n u v a b =
      let path : u.path ≡ v.path = a.path ∙ sym b.path in
      let side : u.from_std ≡ v.from_std = a.side ∙ sym b.side in
      let members : a.members ≡ b.members = some_same a.members b.members (sym a.held ∙ b.held) in
      let given : Gives (GivesUnitFile module_path folders (packages_in slots) (is_std folders n)) b.members u.files = subst (λ (w : List PackageFile). Gives (GivesUnitFile module_path folders (packages_in slots) (is_std folders n)) w u.files) members a.given in
      let files : u.files ≡ v.files = gives_both (GivesUnitFile module_path folders (packages_in slots) (is_std folders n)) (GivesUnitFile module_path folders (packages_in slots) (is_std folders n)) (one_file (is_std folders n)) b.members u.files v.files given b.given in
      let name : u.name ≡ v.name = one_package_name v.files u.name v.name b.some (subst (λ (w : List UnitFile). UnitFilesAreNamed w u.name) files u.named) v.named in
      (λ i. record { path = path i; name = name i; from_std = side i; files = files i })

  pub number_of : (n m : ℕ) (u : PackageUnit) → IsUnitOf module_path folders slots n u → m < length folders → u.path ≡ (folder_of folders m).path → m ≡ n
  number_of n m u a h e =
      let within : n < length folders = omega (arith, slot_within slots n a.members a.held, rows) in
      at_once folders u.path n m ordered (within, sym a.path) (h, sym e)

  -- units of one path are written the same
  pub written_by_path : (n m : ℕ) (u v : PackageUnit) → IsUnitOf module_path folders slots n u → IsUnitOf module_path folders slots m v → u.path ≡ v.path → written u ≡ written v
  written_by_path n m u v a b e =
      let within : m < length folders = omega (arith, slot_within slots m b.members b.held, rows) in
      let same : m ≡ n = number_of n m u a within (e ∙ b.path) in
      one_unit n u v a (subst (λ (k : ℕ). IsUnitOf module_path folders slots k v) same b)

  never_none : (from_std : Bool) (f : PackageFile) → GivesUnitFile module_path folders (packages_in slots) from_std f None → ⊥
  never_none from_std f a = a

  -- what is a unit in one list is one in another
  pub counterpart : (a b : List PackageUnit) → AreUnits module_path folders slots a → AreUnits module_path folders slots b → (v : PackageUnit) → Has b v → (u : PackageUnit) × Has a u × (written u ≡ written v)
  counterpart a b all every v h =
      let k = every.sound v h in
      let many : length v.files ≡ length k.1.members = gives_as_many (GivesUnitFile module_path folders (packages_in slots) (is_std folders k.0)) (never_none (is_std folders k.0)) k.1.given in
      let holds : HoldsPackage slots k.0 = holds_some slots k.0 k.1.members k.1.held (omega (arith, many, k.1.some)) in
      let u = all.complete k.0 holds in
      (u.0, u.1, one_unit k.0 u.0 v u.2 k.1)
