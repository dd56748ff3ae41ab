-- The first used import of a file that its package may not import.
-- Public source: the documentation of Go's command line, "Internal Directories"; Go specification, "Import declarations". Own: the order.
use Rattle.std.specs.Prelude.{◌≡◌, ◌⊎◌, ℕ, Bool, Option, Some, None, List, [], ◌∷◌}
use Rattle.go_imports.specs.ImportPaths.{IsInternalUse}
use Rattle.go_imports.specs.declared.used_imports.NamedImport.{NamedImport}

-- the package with this path may not import what is used here
abbrev pub IsInternalImport : List ℕ → Bool → NamedImport → Type 0
IsInternalImport importer from_std u = IsInternalUse importer from_std u.path

-- the first of some used imports that the package may not import, by its place
abbrev pub IsFirstInternalImport : List ℕ → Bool → List NamedImport → Option ℕ → Type 0
IsFirstInternalImport importer from_std [] None = Unit {0}
IsFirstInternalImport importer from_std [] (Some place) = ⊥
IsFirstInternalImport importer from_std (u ∷ us) None = (IsInternalImport importer from_std u → ⊥) × IsFirstInternalImport importer from_std us None
IsFirstInternalImport importer from_std (u ∷ us) (Some place) = (IsInternalImport importer from_std u × (u.place ≡ place)) ⊎ ((IsInternalImport importer from_std u → ⊥) × IsFirstInternalImport importer from_std us (Some place))
