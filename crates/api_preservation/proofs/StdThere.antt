-- A folder of the standard library that is read beside one module is accepted beside another.
use Rattle.std.proofs.Common.{◌≡◌, ℕ, Bool, true, Option, Some, None, List, sym, ap, ◌∙◌, subst, inl, inr}
use Rattle.go_imports.specs.declared.package_files.SourceFile.{SourceFile}
use Rattle.go_imports.specs.declared.used_imports.Import.{Import}
use Rattle.go_imports.specs.declared.used_imports.NamedImport.{NamedImport}
use Rattle.go_model.specs.declared.files.platform.Platform.{Platform}
use Rattle.go_model.specs.declared.files.tree.Tree.{Tree}
use Rattle.go_model.specs.declared.files.tree.TreeFile.{TreeFile}
use Rattle.go_reading.specs.FolderReadings.{IsReading}
use Rattle.go_reading.specs.TreeFolders.{AreTreeFolders, files_at}
use Rattle.go_std_worlds.proofs.SameFolders.{names_there, std_files}
use Rattle.go_syntax.specs.declared.declaration.File.{File}
use Rattle.go_syntax.specs.declared.declaration.ImportSpec.{ImportSpec}
use Rattle.go_units.specs.Folders.{IsImportedName, folder_of}
use Rattle.go_units.specs.PackageUses.{AreFree, ArePackageFiles, GivesFile, GivesImport, UsesIn}
use Rattle.go_units.specs.Reached.{AreAccepted, is_std}
use Rattle.go_units.specs.declared.folder.Folder.{Folder}
use Rattle.go_units.specs.declared.package_uses.PackageFile.{PackageFile}
use Rattle.go_units.specs.declared.reader.Reading.TheVariants as reading
use Rattle.api_preservation.proofs.FoundAlike.{gives_as}
use Rattle.api_preservation.proofs.Runs.{IsRead}
use Rattle.api_preservation.proofs.SameStd.{side_same}

module _ (p : Platform) (barred : List (List ℕ)) (std_tree ta tb : Tree) (fa fb : List Folder) (a : AreTreeFolders p barred ta std_tree fa) (b : AreTreeFolders p barred tb std_tree fb) where
  named_there : (path : List ℕ) (s : Option (List ℕ)) → IsImportedName ta.module fa true path s → IsImportedName tb.module fb true path s
  named_there path s (inl k) =
      let q = names_there p barred std_tree ta tb fa fb a b path k.0 k.1 in
      inl (q.0.number, q.1, ap (λ (f : Folder). f.package_name) q.0.same ∙ k.2)
  named_there path s (inr k) = inr ((λ i l. let q = names_there p barred std_tree tb ta fb fa b a path i l in k.0 q.0.number q.1), k.1)

  import_there : (spec : ImportSpec) (r : Option Import) → GivesImport ta.module fa true spec r → GivesImport tb.module fb true spec r
  import_there spec None k = k
  import_there spec (Some i) k = record { written = k.written; package_name = named_there spec.path i.package_name k.package_name; path = k.path; place = k.place }

  uses_there : (declared : List (List ℕ)) (outline : File) (uses : List NamedImport) → UsesIn ta.module fa true declared outline uses → UsesIn tb.module fb true declared outline uses
  uses_there declared outline uses k = record {
    all = k.all;
    given = gives_as (GivesImport ta.module fa true) (GivesImport tb.module fb true) (λ spec r h. import_there spec r) k.given;
    names = k.names;
    qualify = k.qualify;
    used = k.used;
  }

  file_there : (declared : List (List ℕ)) (s : SourceFile) (r : Option PackageFile) → GivesFile ta.module fa true declared s r → GivesFile tb.module fb true declared s r
  file_there declared s None k = k
  file_there declared s (Some f) k = (k.0, k.1, k.2, uses_there declared s.outline f.uses k.3)

  given_there : (sources : List SourceFile) (files : List PackageFile) → ArePackageFiles ta.module fa true sources files → ArePackageFiles tb.module fb true sources files
  given_there sources files k = record {
    names = k.names;
    declared = k.declared;
    given = gives_as (GivesFile ta.module fa true k.names) (GivesFile tb.module fb true k.names) (λ s r h. file_there k.names s r) k.given;
  }

  pub read_there : (n m : ℕ) (files : List PackageFile) → folder_of fb m ≡ folder_of fa n → is_std fa n ≡ true → IsRead p barred ta std_tree fa n files → IsRead p barred tb std_tree fb m files
  read_there n m files same std k =
      let std_too : is_std fb m ≡ true = side_same (folder_of fb m) (folder_of fa n) same ∙ std in
      let texts : files_at p barred tb std_tree (folder_of fb m).from_std (folder_of fb m).path ≡ files_at p barred ta std_tree (folder_of fa n).from_std (folder_of fa n).path =
      ap (λ (x : Folder). files_at p barred tb std_tree x.from_std x.path) same ∙ std_files p barred std_tree tb ta (folder_of fa n).from_std (folder_of fa n).path std in
      let here : ArePackageFiles tb.module fb true k.0 files = given_there k.0 files (subst (λ (s : Bool). ArePackageFiles ta.module fa s k.0 files) std k.2.given) in
      let accepted : AreAccepted tb.module fb m k.0 files = record {
        one = k.2.one;
        given = subst (λ (s : Bool). ArePackageFiles tb.module fb s k.0 files) (sym std_too) here;
        free = subst (λ (f : Folder). AreFree f.path f.from_std files) (sym same) k.2.free;
      } in
      (k.0, subst (λ (fs : List TreeFile). IsReading p fs (reading.Files k.0)) (sym texts) k.1, accepted)
