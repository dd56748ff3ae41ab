-- What the files of a folder give to its package: those that don't import `"C"`, each with the imports that it uses.
-- Public source: Go specification, "Packages", "Import declarations", "Declarations and scope"; Go's command cgo (`import "C"`). Own: a file that imports `"C"` counts for
-- its tokens, its grammar and the package name that importers see, and gives nothing else.
use Rattle.std.specs.Prelude.{◌≡◌, ◌⊎◌, ℕ, Bool, Option, Some, None, List, [], ◌∷◌}
use Rattle.go_base.specs.Lists.{Has}
use Rattle.go_base.specs.Growing.{Grows}
use Rattle.go_imports.specs.go_syntax.declared.declaration.File.{File}
use Rattle.go_imports.specs.go_syntax.declared.declaration.ImportSpec.{ImportSpec}
use Rattle.go_imports.specs.go_syntax.declared.name.Name.{Name}
use Rattle.go_imports.specs.Gives.{Gives}
use Rattle.go_imports.specs.InternalUses.{IsFirstInternalImport}
use Rattle.go_imports.specs.PackageFiles.{HasC}
use Rattle.go_imports.specs.UsedImports.{IsDeclaredIn, IsQualifierIn, AreUsed}
use Rattle.go_imports.specs.declared.package_files.SourceFile.{SourceFile}
use Rattle.go_imports.specs.declared.used_imports.Import.{Import}
use Rattle.go_imports.specs.declared.used_imports.NamedImport.{NamedImport}
use Rattle.go_units.specs.Folders.{IsImportedName}
use Rattle.go_units.specs.declared.folder.Folder.{Folder}
use Rattle.go_units.specs.declared.package_uses.PackageFile.{PackageFile}

abbrev pub text_of : Option Name → Option (List ℕ)
text_of None = None
text_of (Some name) = Some name.text

-- a name that the file declares in its package
abbrev pub IsDeclaredByFile : SourceFile → List ℕ → Type 0
IsDeclaredByFile s text = (HasC s.outline.imports → ⊥) × IsDeclaredIn s.outline.decls text

-- a name that one of the files declares in the package
abbrev pub IsDeclaredAmong : List SourceFile → List ℕ → Type 0
IsDeclaredAmong sources text = (s : SourceFile) × Has sources s × IsDeclaredByFile s text

module _ (module_path : List ℕ) (folders : List Folder) (from_std : Bool) where
  -- an import as it is written, with the name in the package clause of what it names
  pub record IsImportOf (spec : ImportSpec) (i : Import) : Type 0 where
    pub written : i.written ≡ text_of spec.name
    pub package_name : IsImportedName module_path folders from_std spec.path i.package_name
    pub path : i.path ≡ spec.path
    pub place : i.place ≡ spec.place

  abbrev pub GivesImport : ImportSpec → Option Import → Type 0
  GivesImport spec None = ⊥
  GivesImport spec (Some i) = IsImportOf spec i

  -- the used imports of a file whose package declares these names
  pub record UsesIn (declared : List (List ℕ)) (outline : File) (uses : List NamedImport) : Type 0 where
    pub all : List Import
    pub given : Gives GivesImport outline.imports all
    pub names : List (List ℕ)
    pub qualify : Grows (IsQualifierIn declared outline.decls) [] names
    pub used : AreUsed all names all uses

  -- a file of the package, or none where the file imports `"C"`
  abbrev pub GivesFile : List (List ℕ) → SourceFile → Option PackageFile → Type 0
  GivesFile declared s None = HasC s.outline.imports
  GivesFile declared s (Some f) = (HasC s.outline.imports → ⊥) × (f.path ≡ s.path) × (f.outline ≡ s.outline) × UsesIn declared s.outline f.uses

  -- the files of the package to which these belong
  pub record ArePackageFiles (sources : List SourceFile) (files : List PackageFile) : Type 0 where
    pub names : List (List ℕ)
    pub declared : Grows (IsDeclaredAmong sources) [] names
    pub given : Gives (GivesFile names) sources files

-- no file of the package uses an import that the package may not import
abbrev pub AreFree : List ℕ → Bool → List PackageFile → Type 0
AreFree path from_std files = (f : PackageFile) → Has files f → IsFirstInternalImport path from_std f.uses None

-- the first place at which a file of the package uses such an import
abbrev pub IsFirstInternal : List ℕ → Bool → List PackageFile → List ℕ → ℕ → Type 0
IsFirstInternal path from_std [] file place = ⊥
IsFirstInternal path from_std (f ∷ fs) file place =
    ((f.path ≡ file) × IsFirstInternalImport path from_std f.uses (Some place)) ⊎ (IsFirstInternalImport path from_std f.uses None × IsFirstInternal path from_std fs file place)
