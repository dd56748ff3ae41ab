-- The files of a package, each with those of its used imports whose names the files don't declare.
-- Public source: Go specification, "Declarations and scope", "Qualified identifiers".
use Rattle.std.specs.Prelude.{◌≡◌, ℕ, List, [], map}
use Rattle.go_base.specs.Growing.{Grows}
use Rattle.go_base.specs.Lists.{Has}
use Rattle.go_imports.specs.UndeclaredUses.{undeclared}
use Rattle.go_imports.specs.UsedImports.{IsDeclaredIn}
use Rattle.go_imports.specs.declared.used_imports.NamedImport.{NamedImport}
use Rattle.go_units.specs.declared.package_uses.PackageFile.{PackageFile}

-- a name that one of the files declares
abbrev pub IsDeclaredOf : List PackageFile → List ℕ → Type 0
IsDeclaredOf files text = (f : PackageFile) × Has files f × IsDeclaredIn f.outline.decls text

abbrev pub IsUseName : List NamedImport → List ℕ → Type 0
IsUseName uses text = (u : NamedImport) × Has uses u × (u.name ≡ text)

-- a name by which one of the files uses an import
abbrev pub IsUseNameOf : List PackageFile → List ℕ → Type 0
IsUseNameOf files text = (f : PackageFile) × Has files f × IsUseName f.uses text

abbrev pub undeclared_of : List (List ℕ) → PackageFile → PackageFile
undeclared_of names f = record { path = f.path; outline = f.outline; uses = undeclared names f.uses }

-- the files, each without the used imports whose names the files declare
pub record AreUndeclared (files kept : List PackageFile) : Type 0 where
  pub names : List (List ℕ)
  pub declared : Grows (λ t. IsDeclaredOf files t × IsUseNameOf files t) [] names
  pub left : kept ≡ map (undeclared_of names) files
