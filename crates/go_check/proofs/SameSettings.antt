-- The setting that scopes keep, and the parts of what is settled.
use Rattle.std.proofs.Common.{◌≡◌, List, Option, sym, subst}
use Rattle.go_packages.specs.go_entries.declared.entry.Entry.{Entry as Had}
use Rattle.go_packages.specs.go_entries.HadEntries.{entries_at}
use Rattle.go_package_entries.specs.Settings.{setting_of}
use Rattle.go_package_scopes.specs.KeptScopes.{Keeps}
use Rattle.go_rules.specs.Scopes.{Scopes}
use Rattle.go_soundness.specs.Settled.{AreAll}
use Rattle.go_typings.specs.PackageEnvironments.{Entries}
use Rattle.go_typings.specs.Sources.{PackageSource, Setting}

-- scopes that keep what is had in a setting are of it
pub same_setting : (s : Setting) (u : PackageSource) (a : Entries) (c : Scopes) → Keeps s u a c → setting_of c ≡ s
same_setting s u a c k i = record { world = k.world i; bits = k.bits i; profile = k.profile i }

module _ (s t : Setting) (u : PackageSource) (had given : List (Option Had)) (same : t ≡ s) (is : given ≡ had) where
  pub all_given : AreAll t u (entries_at had) → AreAll s u (entries_at given)
  all_given a = subst (λ (q : Setting × List (Option Had)). AreAll q.0 u (entries_at q.1)) (λ i. (same i, sym is i)) a

  pub kept_given : (env scopes : Scopes) → scopes ≡ env → Keeps t u (entries_at had) env → Keeps s u (entries_at given) scopes
  kept_given env scopes e k = subst (λ (q : Setting × (List (Option Had) × Scopes)). Keeps q.0 u (entries_at q.1.0) q.1.1) (λ i. (same i, (sym is i, sym e i))) k
