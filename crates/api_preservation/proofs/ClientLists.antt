-- The files of a client are the same beside an old module and a new one, where what they import lands in the new one.
use Rattle.std.proofs.Common.{◌≡◌, ℕ, suc, Bool, true, false, Option, Some, None, List, [], ◌∷◌, map, refl, sym, ap, ◌∙◌, subst, inl, inr, arith}
use Rattle.std.specs.Prelude.{slice_get}
use Rattle.go_base.specs.Lists.{Has}
use Rattle.go_client_unit_laws.specs.go_client_files.ClientFiles.{AreClientFiles, GivesClientFile, GivesNamed, UsesAllIn}
use Rattle.go_client_unit_laws.specs.go_client_files.declared.parsed.ParsedFile.{ParsedFile}
use Rattle.go_client_unit_laws.specs.go_client_files.declared.uses.ClientFile.{ClientFile}
use Rattle.go_client_unit_laws.specs.go_client_files.declared.uses.ClientFiles.{ClientFiles}
use Rattle.go_client_unit_laws.specs.go_client_units.ClientUnits.{IsClientOf}
use Rattle.go_client_unit_laws.specs.go_client_units.declared.units.ClientUnit.{ClientUnit}
use Rattle.go_clients.specs.ProfileClients.{IsInProfile}
use Rattle.go_existence.proofs.FiniteSets.{has_right}
use Rattle.go_imports.proofs.Members.{has_left}
use Rattle.go_imports.specs.Gives.{Gives, next, none, optional}
use Rattle.go_imports.specs.declared.used_imports.Import.{Import}
use Rattle.go_imports.specs.declared.used_imports.NamedImport.{NamedImport}
use Rattle.go_model.specs.worlds.Worlds.{Packages}
use Rattle.go_reading.proofs.ListFacts.{has_mapped}
use Rattle.go_sources.specs.UnitSources.{file_of, import_of, source_of}
use Rattle.go_syntax.specs.declared.declaration.File.{File}
use Rattle.go_syntax.specs.declared.declaration.ImportSpec.{ImportSpec}
use Rattle.go_syntax.specs.declared.statement.LiteralBlock.{LiteralBlock}
use Rattle.go_typings.proofs.FoundImports.{are_found}
use Rattle.go_typings.specs.Sources.{imports_in}
use Rattle.go_units.proofs.FolderLookups.{at_once}
use Rattle.go_units.proofs.Giving.{gives_all}
use Rattle.go_units.specs.Folders.{AreOrdered, IsFound, IsImportedName, NamesFolder, folder_of}
use Rattle.go_units.specs.PackageUses.{GivesImport}
use Rattle.go_units.specs.UnitsOfModules.{GivesUnitFile, GivesUse}
use Rattle.go_units.specs.declared.folder.Folder.{Folder}
use Rattle.go_units.specs.declared.package_uses.PackageFile.{PackageFile}
use Rattle.go_units.specs.declared.unit.UnitFile.{UnitFile}
use Rattle.go_units.specs.declared.unit.UsedImport.{UsedImport}

-- what items give by one relation they give by another that follows for what is given
pub gives_among : {A B : Type 0} (R S : A → Option B → Type 0) {xs : List A} {ys : List B} → ((x : A) (r : Option B) → ((y : B) → r ≡ Some y → Has ys y) → R x r → S x r) → Gives R xs ys → Gives S xs ys
gives_among R S h none = none
gives_among {B = B} R S h (next {xs = xs} {ys = ys} x r g k) =
    next x r (gives_among R S (λ z q there. h z q (λ y e. has_left ys (optional r) y (there y e))) g)
    (h x r (λ y e. has_right ys (optional r) y (subst (λ (o : Option B). Has (optional o) y) (sym e) (inl refl))) k)

-- ---- each import of a client in the profile is found

import_in : (fs : List UnitFile) (g : UnitFile) (i : UsedImport) → Has fs g → Has g.imports i → (file : ℕ) × Has (imports_in (slice_get (map file_of fs) file)) (import_of i)
import_in [] g i h k = absurd h
import_in (f ∷ fs) g i (inl e) k = (0, has_mapped import_of f.imports i (subst (λ (w : UnitFile). Has w.imports i) (sym e) k))
import_in (f ∷ fs) g i (inr h) k = let q = import_in fs g i h k in (suc q.0, q.1)

module _ (world : Packages) (bits : ℕ) where
  found_in : (files : List UnitFile) (blocks : List (List LiteralBlock)) (c : Option ClientUnit) → IsClientOf files blocks c → IsInProfile world bits c → (g : UnitFile) (i : UsedImport) → Has files g → Has g.imports i → i.found ≡ true
  found_in [] blocks None e k g i h j = absurd h
  found_in (f ∷ fs) blocks None e k g i h j = absurd (omega (arith, e))
  found_in files blocks (Some c) e k g i h j =
      let q = import_in c.unit.files g i (subst (λ (fs : List UnitFile). Has fs g) (sym e.files_are) h) j in
      are_found (source_of c.unit) k.found q.0 (import_of i) q.1

  module _ (module_path : List ℕ) (folders : List Folder) (packages : List Bool) (list : List PackageFile) (files : List UnitFile) (given : Gives (GivesUnitFile module_path folders packages false) list files) (blocks : List (List LiteralBlock)) (c : Option ClientUnit) (is : IsClientOf files blocks c) (typed : IsInProfile world bits c) where
    pub all_found : (f : PackageFile) (u : NamedImport) → Has list f → Has f.uses u → (m : ℕ) × IsFound module_path folders packages false u.path m
    all_found f u h i = elim (gives_all (GivesUnitFile module_path folders packages false) given f h) [
      | inl never ↦ absurd never
      | inr g ↦ elim (gives_all (GivesUse module_path folders packages false) g.2.given u i) [
        | inl never ↦ absurd never
        | inr j ↦ j.2.is_found.0 (found_in files blocks c is typed g.0 j.0 g.1 j.1)
      ]
    ]

-- ---- its files beside the other module

module _ (ma mb : List ℕ) (fa fb : List Folder) (ordered : AreOrdered fa) where
  -- the folder of an import path beside the one module, and one with the same name beside the other
  pub record NamedThere (path : List ℕ) : Type 0 where
    pub here : ℕ
    pub names : NamesFolder ma fa false path here
    pub there : ℕ
    pub names_too : NamesFolder mb fb false path there
    pub same : (folder_of fb there).package_name ≡ (folder_of fa here).package_name

  named_there : (path : List ℕ) (said : Option (List ℕ)) → NamedThere path → IsImportedName ma fa false path said → IsImportedName mb fb false path said
  named_there path said k (inl n) =
      let number : k.here ≡ n.0 = at_once fa path n.0 k.here ordered (n.1.within, n.1.same) (k.names.within, k.names.same) in
      inl (k.there, k.names_too, k.same ∙ ap (λ (m : ℕ). (folder_of fa m).package_name) number ∙ n.2)
  named_there path said k (inr n) = absurd (n.0 k.here k.names)

  import_there : (spec : ImportSpec) (r : Option Import) → ((i : Import) → r ≡ Some i → NamedThere i.path) → GivesImport ma fa false spec r → GivesImport mb fb false spec r
  import_there spec None k g = g
  import_there spec (Some i) k g = record {
    written = g.written;
    package_name = named_there spec.path i.package_name (subst NamedThere g.path (k i refl)) g.package_name;
    path = g.path;
    place = g.place;
  }

  uses_there : (outline : File) (uses : List NamedImport) → ((u : NamedImport) → Has uses u → NamedThere u.path) → UsesAllIn ma fa outline uses → UsesAllIn mb fb outline uses
  uses_there outline uses k g = record {
    all = g.all;
    given = gives_among (GivesImport ma fa false) (GivesImport mb fb false) (λ spec r there. import_there spec r (λ i e. named i (there i e))) g.given;
    named = g.named;
  }
    where
      named : (i : Import) → Has g.all i → NamedThere i.path
      named i h = elim (gives_all GivesNamed g.named i h) [
        | inl never ↦ absurd never
        | inr u ↦ subst NamedThere (ap (λ (w : NamedImport). w.path) u.2) (k u.0 u.1)
      ]

  file_there : (x : ParsedFile) (r : Option ClientFile) → ((f : ClientFile) → r ≡ Some f → (u : NamedImport) → Has f.file.uses u → NamedThere u.path) → GivesClientFile ma fa x r → GivesClientFile mb fb x r
  file_there x None k g = g
  file_there x (Some f) k g = (g.0, g.1, g.2, g.3, uses_there x.source.outline f.file.uses (k f refl) g.4)

  pub list_there : (xs : List ParsedFile) (list : ClientFiles) → ((f : PackageFile) (u : NamedImport) → Has list.files f → Has f.uses u → NamedThere u.path) → AreClientFiles ma fa xs list → AreClientFiles mb fb xs list
  list_there xs list k g = record {
    made = g.made;
    given = gives_among (GivesClientFile ma fa) (GivesClientFile mb fb) (λ x r there. file_there x r (λ f e u i. k f.file u (subst (λ (fs : List PackageFile). Has fs f.file) (sym g.files) (has_mapped (λ (w : ClientFile). w.file) g.made f (there f e))) i)) g.given;
    files = g.files;
    blocks = g.blocks;
  }
