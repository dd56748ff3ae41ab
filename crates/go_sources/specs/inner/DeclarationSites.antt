-- The names that declarations declare, group by group as they are written.
-- Own: words of the contracts inside this crate.
use Rattle.std.specs.Prelude.{ℕ, suc, List, [], ◌∷◌, ◌++◌}
use Rattle.go_base.specs.Gathered.{gather}
use Rattle.go_syntax.specs.declared.declaration.ConstSpec.{ConstSpec}
use Rattle.go_syntax.specs.declared.declaration.Decl.{Decl}
use Rattle.go_syntax.specs.declared.declaration.TypeSpec.{TypeSpec}
use Rattle.go_syntax.specs.declared.declaration.VarSpec.{VarSpec}
use Rattle.go_typings.specs.Declarations.{forms}
use Rattle.go_typings.specs.Redeclarations.{form_sites, import_site, name_site, Site}
use Rattle.go_units.specs.declared.unit.UnitFile.{UnitFile}
use Rattle.go_sources.specs.UnitSources.{import_of}

abbrev pub decl_sites : ℕ → Decl → List Site
decl_sites file d = gather (form_sites file) (forms d)

abbrev pub const_sites : ℕ → ConstSpec → List Site
const_sites file s = gather (name_site file) s.names

abbrev pub var_sites : ℕ → VarSpec → List Site
var_sites file s = gather (name_site file) s.names

abbrev pub type_sites : ℕ → TypeSpec → List Site
type_sites file s = name_site file s.name

-- the names that a file declares, its used imports before its declarations
abbrev pub unit_file_sites : ℕ → UnitFile → List Site
unit_file_sites file f = gather (λ i. import_site file (import_of i)) f.imports ++ gather (decl_sites file) f.outline.decls

abbrev pub unit_sites_from : ℕ → List UnitFile → List Site
unit_sites_from file [] = []
unit_sites_from file (f ∷ fs) = unit_file_sites file f ++ unit_sites_from (suc file) fs
