-- What the declarations of a package and what is had of them tell.
-- Own: words of the contracts.
use Rattle.std.specs.Prelude.{◌≡◌, ◌≢◌, List, [], Option, length}
use Rattle.go_declarations.specs.Listings.{declarations_of}
use Rattle.go_declared.specs.AliasEnds.{AreEnds}
use Rattle.go_declared.specs.MethodTables.{AreMethods}
use Rattle.go_declared.specs.NameTables.{AreDeclared}
use Rattle.go_declared.specs.NamesakeTables.{AreNamesakes}
use Rattle.go_entries.specs.declared.entry.Entry.{Entry}
use Rattle.go_entries.specs.HadEntries.{entries_at}
use Rattle.go_model.specs.types.Terms.{error_type}
use Rattle.go_package_entries.specs.declared.giver.PackageEntries.{PackageEntries}
use Rattle.go_package_scopes.specs.KeptScopes.{Keeps}
use Rattle.go_rules.specs.Scopes.{Scopes}
use Rattle.go_sources.specs.UnitSources.{source_of}
use Rattle.go_typings.specs.Declarations.{declarations}
use Rattle.go_typings.specs.PackageEnvironments.{Entries}
use Rattle.go_typings.specs.Sources.{PackageSource, Setting}
use Rattle.go_package_entries.specs.Settings.{setting_of}

-- what the package is typed in
abbrev pub setting_in : PackageEntries → Setting
setting_in p = setting_of p.env

-- the package
abbrev pub source_in : PackageEntries → PackageSource
source_in p = source_of p.unit.now

-- its scopes
abbrev pub scopes_in : PackageEntries → Scopes
scopes_in p = p.env

-- by the numbers of its declarations the entries that are had
abbrev pub had_in : PackageEntries → List (Option Entry)
had_in p = p.had

abbrev pub entries_in : PackageEntries → Entries
entries_in p = entries_at p.had

-- the scopes keep what is had of the package, and the tables are those of its declarations
pub record IsKept (p : PackageEntries) : Type 0 where
  pub keeps : Keeps (setting_in p) (source_in p) (entries_in p) p.env
  pub listed : declarations (source_in p) ≡ declarations_of p.tables.declarations.now
  pub names : AreDeclared (declarations_of p.tables.declarations.now) p.tables.names.now
  pub ends : AreEnds (declarations_of p.tables.declarations.now) p.tables.ends.items
  pub methods : AreMethods (declarations_of p.tables.declarations.now) p.tables.methods.now
  pub namesakes : AreNamesakes (declarations_of p.tables.declarations.now) p.tables.namesakes
  pub count : length p.had ≡ length p.tables.declarations.now
  pub pathed : (source_in p).path ≢ []
  pub predeclared : p.error ≡ error_type
