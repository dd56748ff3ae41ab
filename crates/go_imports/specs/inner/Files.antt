-- What the functions on the files of a package ask.
use Rattle.std.specs.Prelude.{◌≡◌, ℕ, List}
use Rattle.go_imports.specs.declared.package_files.SourceFile.{SourceFile}

abbrev pub IsNamedAs : List ℕ → SourceFile → Type 0
IsNamedAs name file = file.outline.«package».text ≡ name
