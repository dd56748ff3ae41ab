-- Entries that are had of a package, with the scopes that have them, and which declarations are lost.
use Rattle.std.specs.Prelude.{◌≡◌, Bool, List, length, Option}
use Rattle.go_packages.specs.go_entries.HadEntries.{entries_at}
use Rattle.go_packages.specs.go_entries.declared.entry.Entry.{Entry as Had}
use Rattle.go_graphs.specs.Flags.{is_flagged}
use Rattle.go_package_scopes.specs.PackageScopes.{IsScopeOf}
use Rattle.go_rules.specs.Scopes.{Scopes}
use Rattle.go_soundness.specs.Settled.{AreAll, AreSifted}
use Rattle.go_typings.specs.Declarations.{declarations}
use Rattle.go_typings.specs.Sources.{PackageSource, Setting}

pub record IsSettledIn (s : Setting) (u : PackageSource) (c : Scopes) (had : List (Option Had)) (lost : List Bool) : Type 0 where
  pub count : length had ≡ length (declarations u)
  pub flags : length lost ≡ length (declarations u)
  pub scope : IsScopeOf s u (entries_at had) c
  pub all : AreAll s u (entries_at had)
  pub sifted : AreSifted s u (entries_at had) (is_flagged lost)
