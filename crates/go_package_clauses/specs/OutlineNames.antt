-- The name of a package by the outlines of its files.
-- Public source: Go specification, "Package clause".
use Rattle.std.specs.Prelude.{ℕ, Option, Some, None, List, [], ◌∷◌}
use Rattle.go_imports.specs.declared.package_files.SourceFile.{SourceFile}

-- the name in the package clause of the first outline
abbrev pub outlined_name : List SourceFile → Option (List ℕ)
outlined_name [] = None
outlined_name (s ∷ sources) = Some s.outline.«package».text
