-- A client's package that is typed on the old side is typed on the new one, by the images of its entries.
use Rattle.std.proofs.Common.{Bool, List}
use Rattle.go_model.specs.declared.types.names.Sel.{Sel}
use Rattle.go_model.specs.declared.types.names.TypeName.{TypeName}
use Rattle.go_type_images.specs.Images.{Naming}
use Rattle.go_type_images.specs.declared.pair.TypePair.{TypePair}
use Rattle.go_typings.specs.Assignments.{all_of}
use Rattle.go_typings.specs.Declarations.{declarations}
use Rattle.go_typings.specs.PackageEnvironments.{Entries, environment}
use Rattle.go_typings.specs.Sources.{PackageSource, Setting}
use Rattle.go_typings.specs.Typings.{IsTyping}
use Rattle.go_client_packages.specs.ClientEntries.{entries_image}
use Rattle.go_client_packages.specs.ClientSettings.{KeepsSettings}
use Rattle.go_client_packages.proofs.AskedDeclarations.{asks_kept, client_is_no_error}
use Rattle.go_client_packages.proofs.EntriesKept.{entries_reached, images_had}
use Rattle.go_client_packages.proofs.Environments.{environment_kept}
use Rattle.go_client_packages.proofs.Falling.{falls_kept}
use Rattle.go_client_packages.proofs.Lengths.{lengths_kept}

module _ (s t : Setting) (u : PackageSource) (r : Naming) (pairs : List TypePair) (std : TypeName → Bool) (is_open : Sel → Bool) (K : KeepsSettings s t u r pairs std is_open) (a : Entries) (typing : IsTyping s u a) where
  pub typing_kept : IsTyping t u (entries_image r a)
  typing_kept =
      let all = all_of (declarations u) in
      let h = entries_reached s t u r pairs std is_open K all a typing in
      record {
        had = images_had s t u r pairs std is_open K all a typing;
        asks = λ n i. (
            let g = typing.asks n i in
            (g.0, g.1, asks_kept (environment s u a g.0) (environment t u (entries_image r a) g.0) r pairs std is_open (environment_kept s t u r pairs std is_open K a h g.0) u K.client client_is_no_error n g.0.form g.2));
        rank = typing.rank;
        falls = falls_kept s t u r pairs std is_open K a h all typing typing.rank typing.falls;
        lengths = lengths_kept s t u r pairs std is_open K a h typing typing.lengths;
      }
