-- References that select from imports of their file.
-- Public source: Go specification, "Qualified identifiers" and "Import declarations".
use Rattle.std.specs.Prelude.{◌≡◌, ℕ, true, false, if◌then◌else◌, List, Option, None, Some}
use denote.Ref.{Bor}
use Rattle.go_base.specs.Keys.{first_with}
use Rattle.go_base.specs.Lists.{Has}
use Rattle.go_exposed.specs.BeyondProfile.{SelectsMissing}
use Rattle.go_references.specs.References.{is_selected}
use Rattle.go_references.specs.declared.references.Reference.{Reference}
use Rattle.go_sources.specs.UnitSources.{import_of}
use Rattle.go_typings.specs.Assignments.{At}
use Rattle.go_typings.specs.Declarations.{declarations, is_init}
use Rattle.go_typings.specs.Sources.{Import, PackageSource, import_name}
use Rattle.go_units.specs.declared.unit.UsedImport.{UsedImport}

-- the import that a name means in a file with these imports
abbrev pub import_in : List Import → List ℕ → Option Import
import_in is name = if is_init name then None else first_with import_name is name

-- the import that was borrowed
abbrev pub borrowed : Option (Bor UsedImport) → Option Import
borrowed None = None
borrowed (Some i) = Some (import_of i.now)

-- the reference stands before a selector and means this import
pub record Selects (is : List Import) (r : Reference) (i : Import) : Type 0 where
  pub selects : is_selected r.selected ≡ true
  pub means : import_in is r.name.text ≡ Some i

-- the reference selects from an import that isn't found
pub record SelectsNone (is : List Import) (r : Reference) : Type 0 where
  pub «import» : Import
  pub selects : Selects is r «import»
  pub missing : «import».is_found ≡ false

-- one of the references does
pub record OneSelectsNone (is : List Import) (rs : List Reference) : Type 0 where
  pub reference : Reference
  pub has : Has rs reference
  pub selects : SelectsNone is reference

-- one of the references selects from this import
pub record OneSelects (is : List Import) (rs : List Reference) (i : Import) : Type 0 where
  pub reference : Reference
  pub has : Has rs reference
  pub selects : Selects is reference i

-- the declaration of this number selects from an import that isn't found
abbrev pub SelectsMissingAt : PackageSource → ℕ → Type 0
SelectsMissingAt u n = At (declarations u) n (λ d. SelectsMissing u d)
