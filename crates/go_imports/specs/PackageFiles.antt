-- The files of a package: their one name, and which of them import `"C"`.
-- Public source: Go specification, "Source file organization" and "Package clause" (the files of a package share its name); Go's command cgo (`import "C"`).
use Rattle.std.specs.Prelude.{◌≡◌, List, codes}
use Rattle.go_base.specs.Lists.{Has}
use Rattle.go_references.specs.go_syntax.declared.declaration.ImportSpec.{ImportSpec}
use Rattle.go_imports.specs.declared.package_files.SourceFile.{SourceFile}

-- the files have one package name
abbrev pub AreOfOnePackage : List SourceFile → Type 0
AreOfOnePackage files = (s t : SourceFile) → Has files s → Has files t → s.outline.«package».text ≡ t.outline.«package».text

abbrev pub IsC : ImportSpec → Type 0
IsC import = import.path ≡ codes "C"

-- one of the imports is `"C"`
abbrev pub HasC : List ImportSpec → Type 0
HasC imports = (i : ImportSpec) × Has imports i × IsC i
