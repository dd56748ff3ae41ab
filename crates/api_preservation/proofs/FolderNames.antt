-- The name that a folder's headers tell is that of its unit.
use Rattle.std.proofs.Common.{◌≡◌, ◌<◌, ℕ, Option, Some, List, [], ◌∷◌, length, refl, sym, ap, ◌∙◌, inl, arith}
use Rattle.go_base.specs.Lists.{Has}
use Rattle.go_imports.specs.PackageFiles.{AreOfOnePackage}
use Rattle.go_imports.specs.declared.package_files.SourceFile.{SourceFile}
use Rattle.go_model.specs.declared.files.platform.Platform.{Platform}
use Rattle.go_model.specs.declared.files.tree.Tree.{Tree}
use Rattle.go_model.specs.declared.files.tree.TreeFile.{TreeFile}
use Rattle.go_package_clauses.specs.OutlineNames.{outlined_name}
use Rattle.go_reading.specs.FolderReadings.{IsPackageName, IsReading}
use Rattle.go_reading.specs.TreeFolders.{files_at}
use Rattle.go_units.proofs.Giving.{given_by}
use Rattle.go_units.specs.Folders.{folder_of}
use Rattle.go_units.specs.PackageUses.{GivesFile}
use Rattle.go_units.specs.Reached.{is_std}
use Rattle.go_units.specs.UnitsOfModules.{GivesUnitFile, packages_in}
use Rattle.go_units.specs.declared.folder.Folder.{Folder}
use Rattle.go_units.specs.declared.reader.Reading.TheVariants as reading
use Rattle.go_units.specs.declared.unit.«Unit».{«Unit» as PackageUnit}
use Rattle.go_units.specs.declared.unit.UnitFile.{UnitFile}
use Rattle.api_preservation.proofs.UnitRuns.{IsAt, UnitRun, unit_folder}

-- the name that headers tell is that of the outlines
abbrev pub TellOutlines : Platform → Type 0
TellOutlines p = (files : List TreeFile) (sources : List SourceFile) (said : Option (List ℕ)) → IsReading p files (reading.Files sources) → IsPackageName p files said → said ≡ outlined_name sources

some_file : (fs : List UnitFile) → 0 < length fs → (g : UnitFile) × Has fs g
some_file [] h = absurd (omega (arith, h))
some_file (g ∷ fs) h = (g, inl refl)

-- files of one package, of which this is one, have its name
outlined : (sources : List SourceFile) → AreOfOnePackage sources → (s : SourceFile) → Has sources s → outlined_name sources ≡ Some s.outline.«package».text
outlined [] one s h = absurd h
outlined (x ∷ xs) one s h = ap (λ (t : List ℕ). Some t) (one x s (inl refl) h)

module _ (p : Platform) (barred : List (List ℕ)) (tree std_tree : Tree) (folders : List Folder) (outlines : TellOutlines p) (r : UnitRun p barred tree std_tree folders) where
  pub folder_named : (u : PackageUnit) (n : ℕ) → IsAt p barred tree std_tree folders r n u → (folder_of folders n).package_name ≡ Some u.name
  folder_named u n k =
      let f = folder_of folders n in
      let t = unit_folder p barred tree std_tree folders r u n k in
      let read = r.run.read n k.members k.held in
      let said : f.package_name ≡ outlined_name read.0 = outlines (files_at p barred tree std_tree f.from_std f.path) read.0 f.package_name read.1 t.package_name in
      let g = some_file u.files k.some in
      let m = given_by (GivesUnitFile tree.module folders (packages_in r.run.slots) (is_std folders n)) k.given g.0 g.1 in
      let s = given_by (GivesFile tree.module folders (is_std folders n) read.2.given.names) read.2.given.given m.0 m.1 in
      let text : s.0.outline.«package».text ≡ u.name = sym (ap (λ o. o.«package».text) s.2.2) ∙ sym (ap (λ o. o.«package».text) m.2.reads) ∙ u.named g.0 g.1 in
      said ∙ outlined read.0 read.2.one s.0 s.1 ∙ ap (λ (w : List ℕ). Some w) text
