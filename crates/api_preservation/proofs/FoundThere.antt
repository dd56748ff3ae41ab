-- What a client imports of an old module is found beside the new one.
use Rattle.std.proofs.Common.{◌≡◌, ◌⊎◌, ℕ, true, false, List, sym, ◌∙◌, inl, inr}
use Rattle.go_base.specs.Lists.{Has}
use Rattle.go_imports.specs.declared.used_imports.NamedImport.{NamedImport}
use Rattle.go_model.specs.declared.files.platform.Platform.{Platform}
use Rattle.go_model.specs.declared.files.tree.Tree.{Tree}
use Rattle.go_model.specs.declared.files.tree.TreeFile.{TreeFile}
use Rattle.go_reading.specs.FolderReadings.{IsReading}
use Rattle.go_units.specs.Folders.{IsFound, folder_of}
use Rattle.go_units.specs.Reached.{FilesAsk, IsFresh, is_std}
use Rattle.go_units.specs.UnitsOfModules.{HoldsPackage, packages_in}
use Rattle.go_units.specs.declared.folder.Folder.{Folder}
use Rattle.go_units.specs.declared.package_uses.PackageFile.{PackageFile}
use Rattle.go_units.specs.declared.reader.Reading.{Reading}
use Rattle.api_preservation.proofs.ClientImports.{IsSeen, Lands, lands_permitted}
use Rattle.api_preservation.proofs.FoundAlike.{AllAlike}
use Rattle.api_preservation.proofs.Runs.{Run, filled, held_there, holds_alike}
use Rattle.api_preservation.proofs.SameStd.{side_same, std_files_same}
use Rattle.api_preservation.proofs.SameTree.{same_files}
use Rattle.api_preservation.proofs.UnitRuns.{UnitRun}

module _ (p : Platform) (bits : ℕ) (barred : List (List ℕ)) (std_tree : Tree) (one : (files : List TreeFile) (a b : Reading) → IsReading p files a → IsReading p files b → a ≡ b)
    (old new : Tree) (fo fn : List Folder) (oa oc : UnitRun p barred old std_tree fo) (na : UnitRun p barred new std_tree fn) (s : Run p barred new std_tree fn)
    (client : List PackageFile) (client_asked : (m : ℕ) → FilesAsk new.module fn false client m → IsFresh s.slots m → ⊥) where
  abbrev Seen : List ℕ → ℕ → Type 0
  Seen path m = IsSeen p bits barred std_tree one old new fo fn oa oc na path m

  abbrev Landing : List ℕ → ℕ → Type 0
  Landing path m = Lands p bits barred std_tree one old new fo fn oa oc na path m

  module _ (f : PackageFile) (u : NamedImport) (h : Has client f) (i : Has f.uses u) (m : ℕ) (k : Seen u.path m) (l : Landing u.path m) where
    holds_there : ((is_std fo m ≡ true) × (folder_of fn l.number ≡ folder_of fo m)) ⊎ ((is_std fn l.number ≡ false) × HoldsPackage na.run.slots l.number) → HoldsPackage s.slots l.number
    holds_there (inl q) =
        let side : is_std fn l.number ≡ true = side_same (folder_of fn l.number) (folder_of fo m) q.1 ∙ q.0 in
        let here = filled s.slots l.number (client_asked l.number (f, h, (u, i, record { names = l.names; side = side; permitted = lands_permitted p bits barred std_tree one old new fo fn oa oc na u.path m l k }))) in
        let was = held_there oc.run.slots m k.holds in
        let same : was.0 ≡ here.0 = std_files_same p barred std_tree one old new fo fn oc.run s m l.number was.0 here.0 q.1 q.0 was.1 here.1 in
        holds_alike s.slots oc.run.slots l.number m here.0 was.0 here.1 was.1 (sym same) k.holds
    holds_there (inr q) =
        let here = filled s.slots l.number (s.own l.number l.names.within q.0) in
        let was = held_there na.run.slots l.number q.1 in
        holds_alike s.slots na.run.slots l.number l.number here.0 was.0 here.1 was.1 (same_files p barred new std_tree fn one s na.run l.number here.0 was.0 here.1 was.1) q.1

    pub landed : IsFound new.module fn (packages_in s.slots) false u.path l.number
    landed = record {
      names = l.names;
      permitted = lands_permitted p bits barred std_tree one old new fo fn oa oc na u.path m l k;
      known = λ e. k.known (sym l.same_name ∙ e);
      holds = holds_there l.held;
    }

  module _ (land : (f : PackageFile) (u : NamedImport) → Has client f → Has f.uses u → (m : ℕ) → Seen u.path m → Landing u.path m) (found : (f : PackageFile) (u : NamedImport) → Has client f → Has f.uses u → (m : ℕ) × Seen u.path m) where
    pub client_alike : AllAlike old.module new.module fo fn (packages_in oc.run.slots) (packages_in s.slots) false client
    client_alike f u h i = record {
      forth = λ m k. ((land f u h i m k).number, landed f u h i m k (land f u h i m k));
      back = λ m k. found f u h i;
    }
