-- Ranks that fall along the references of a client's declarations on the old side do so on the new one.
use Rattle.std.proofs.Common.{ℕ, Bool, List}
use Rattle.go_model.specs.declared.types.names.Sel.{Sel}
use Rattle.go_model.specs.declared.types.names.TypeName.{TypeName}
use Rattle.go_type_images.specs.Images.{Naming}
use Rattle.go_type_images.specs.declared.pair.TypePair.{TypePair}
use Rattle.go_typed_packages.proofs.OwnDeclarations.{asked_at}
use Rattle.go_typings.specs.DeclarationNodes.{strong_references}
use Rattle.go_typings.specs.PackageEnvironments.{Entries, environment}
use Rattle.go_typings.specs.References.{Falls}
use Rattle.go_typings.specs.Sources.{PackageSource, Setting}
use Rattle.go_typings.specs.Typings.{Typing}
use Rattle.go_client_packages.specs.ClientEntries.{EntriesReached, entries_image}
use Rattle.go_client_packages.specs.ClientSettings.{KeepsSettings}
use Rattle.go_client_packages.proofs.Environments.{environment_kept}
use Rattle.go_client_packages.proofs.FieldKeys.{names_back}

module _ (s t : Setting) (u : PackageSource) (r : Naming) (pairs : List TypePair) (std : TypeName → Bool) (is_open : Sel → Bool) (K : KeepsSettings s t u r pairs std is_open) (a : Entries) (h : EntriesReached pairs std is_open a) (within : ℕ → Bool) (typing : Typing s u within a) where
  pub falls_kept : (rank : ℕ → ℕ) → Falls s u a within rank → Falls t u (entries_image r a) within rank
  falls_kept rank f m n i at =
      let d = at.0 in
      let asked = asked_at s u within a typing m d i at.1 in
      f m n i (d, at.1, names_back (environment s u a d) (environment t u (entries_image r a) d) r pairs std is_open (environment_kept s t u r pairs std is_open K a h d) u d.form (strong_references d.form) n asked.meets at.2)
