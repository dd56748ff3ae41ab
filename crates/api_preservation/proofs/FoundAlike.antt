-- Files whose imports are found beside one list of folders exactly where they are found beside another give the same files of units.
use Rattle.std.proofs.Common.{◌≡◌, ℕ, Bool, Option, Some, None, List, [], ◌∷◌}
use Rattle.go_base.specs.Lists.{Has}
use Rattle.go_client_unit_laws.proofs.OneClient.{all_files}
use Rattle.go_imports.proofs.Members.{has_last, has_left}
use Rattle.go_imports.specs.Gives.{Gives, none, next}
use Rattle.go_imports.specs.declared.used_imports.NamedImport.{NamedImport}
use Rattle.go_units.specs.Folders.{IsFound}
use Rattle.go_units.specs.UnitsOfModules.{GivesUnitFile, GivesUse}
use Rattle.go_units.specs.declared.folder.Folder.{Folder}
use Rattle.go_units.specs.declared.package_uses.PackageFile.{PackageFile}
use Rattle.go_units.specs.declared.unit.UnitFile.{UnitFile}
use Rattle.go_units.specs.declared.unit.UsedImport.{UsedImport}

-- what items give by one relation they give by another that follows
pub gives_as : {A B : Type 0} (R S : A → Option B → Type 0) {xs : List A} {ys : List B} → ((x : A) (r : Option B) → Has xs x → R x r → S x r) → Gives R xs ys → Gives S xs ys
gives_as R S h none = none
gives_as R S h (next {xs = xs} x r g k) = next x r (gives_as R S (λ z q i. h z q (has_left xs (x ∷ []) z i)) g) (h x r (has_last xs x) k)

module _ (ma mb : List ℕ) (fa fb : List Folder) (pa pb : List Bool) (s : Bool) where
  -- an import is found beside the one exactly where it is beside the other
  pub record FoundAlike (path : List ℕ) : Type 0 where
    pub forth : (m : ℕ) → IsFound ma fa pa s path m → (i : ℕ) × IsFound mb fb pb s path i
    pub back : (m : ℕ) → IsFound mb fb pb s path m → (i : ℕ) × IsFound ma fa pa s path i

  -- so is each import of the files
  abbrev pub AllAlike : List PackageFile → Type 0
  AllAlike members = (f : PackageFile) (u : NamedImport) → Has members f → Has f.uses u → FoundAlike u.path

  use_as : (u : NamedImport) (r : Option UsedImport) → FoundAlike u.path → GivesUse ma fa pa s u r → GivesUse mb fb pb s u r
  use_as u None k g = g
  use_as u (Some i) k g = record {
    names = g.names;
    path = g.path;
    place = g.place;
    is_found = ((λ e. let q = g.is_found.0 e in k.forth q.0 q.1), (λ q. g.is_found.1 (k.back q.0 q.1)));
  }

  file_as : (f : PackageFile) (r : Option UnitFile) → ((u : NamedImport) → Has f.uses u → FoundAlike u.path) → GivesUnitFile ma fa pa s f r → GivesUnitFile mb fb pb s f r
  file_as f None k g = g
  file_as f (Some x) k g = record {
    path = g.path;
    reads = g.reads;
    given = gives_as (GivesUse ma fa pa s) (GivesUse mb fb pb s) (λ u r h. use_as u r (k u h)) g.given;
  }

  pub files_as : (members : List PackageFile) (gs : List UnitFile) → AllAlike members → Gives (GivesUnitFile ma fa pa s) members gs → Gives (GivesUnitFile mb fb pb s) members gs
  files_as members gs k g = gives_as (GivesUnitFile ma fa pa s) (GivesUnitFile mb fb pb s) (λ f r h. file_as f r (λ u i. k f u h i)) g

  pub files_alike : (members : List PackageFile) (gs hs : List UnitFile) → AllAlike members → Gives (GivesUnitFile ma fa pa s) members gs → Gives (GivesUnitFile mb fb pb s) members hs → gs ≡ hs
  files_alike members gs hs k g h = all_files mb fb pb s members gs hs (files_as members gs k g) h
