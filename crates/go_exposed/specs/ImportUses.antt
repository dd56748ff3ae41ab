-- The imports from which a declaration selects.
-- Public source: Go specification, "Qualified identifiers" and "Import declarations".
use Rattle.std.specs.Prelude.{◌≡◌, true, Some}
use Rattle.go_base.specs.Lists.{Has}
use Rattle.go_typings.specs.go_references.References.{is_selected}
use Rattle.go_typings.specs.go_references.declared.references.Reference.{Reference}
use Rattle.go_typings.specs.DeclarationNodes.{references}
use Rattle.go_typings.specs.Declarations.{Declaration}
use Rattle.go_typings.specs.PackageEnvironments.{import_of}
use Rattle.go_typings.specs.Sources.{Import, PackageSource}

-- a name in the declaration stands before a selector, as in `name.X`, and means this import in the declaration's file
pub record SelectsFrom (u : PackageSource) (d : Declaration) (i : Import) : Type 0 where
  pub reference : Reference
  pub has : Has (references d.form) reference
  pub selects : is_selected reference.selected ≡ true
  pub means : import_of u d.file reference.name.text ≡ Some i
