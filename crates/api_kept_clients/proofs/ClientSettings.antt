-- Compatible worlds keep what a client is given.
use Rattle.std.proofs.Common.{◌≡◌, ◌⊎◌, inl, inr, ℕ, true, List, [], refl, sym, ap, ◌∙◌, subst, Option, Some}
use Rattle.go_model.specs.declared.types.package.Entity.{Entity}
use Rattle.go_model.specs.declared.types.package.Package.{Package}
use Rattle.go_model.specs.types.Tables.{Table}
use Rattle.go_model.specs.types.Terms.{client_path}
use Rattle.go_model.specs.worlds.Worlds.{IsWorld, Packages, object_in}
use Rattle.go_rules.specs.Environments.{is_exported}
use Rattle.go_rules.specs.Scopes.{entity_of}
use Rattle.go_type_images.specs.NewNames.{new_name}
use Rattle.go_type_images.specs.declared.pair.TypePair.{TypePair}
use Rattle.go_typings.proofs.Cells.{either, none_some}
use Rattle.go_typings.proofs.HeldImports.{path_found, path_missing}
use Rattle.go_typings.specs.Sources.{PackageSource}
use Rattle.go_client_types.specs.Keeping.{EntityReached, IsKeptEntity}
use Rattle.go_client_packages.specs.ClientSettings.{Holds, KeepsSettings, object_at}
use Rattle.api_correspond.specs.OwnedPairs.{HoldsOwned}
use Rattle.api_correspond.specs.Publics.{IsPublic, of_std, package_at, types_of}
use Rattle.api_correspond.specs.Rules.{Compatible}
use Rattle.api_correspond.specs.SharedStd.{ShareStd}
use Rattle.api_kept_clients.specs.ServedClients.{ImportsShown, ServesClients, for_client}
use Rattle.api_std_types.proofs.api_kept_relations_proofs.Objects.{object_kept}
use Rattle.api_std_types.proofs.api_kept_relations_proofs.Pairs.{Worlds}
use Rattle.api_std_types.proofs.api_kept_relations_proofs.Preserving.{preserves}
use Rattle.api_std_types.specs.api_kept_relations.StdTypes.{StdMethodsStay, StdStandsAlone, is_open_sel, shared_std}

pub record AreCompatible (old new before after : Packages) (pairs : List TypePair) : Type 0 where
  pub holds : HoldsOwned old new pairs
  pub compatible : Compatible old new
  pub old_world : IsWorld old
  pub new_world : IsWorld new
  pub share : ShareStd old new
  pub stay : StdMethodsStay old
  pub serves : ServesClients old before
  pub serves_too : ServesClients new after
  pub share_too : ShareStd before after
  pub alone : StdStandsAlone before

module _ (old new before after : Packages) (pairs : List TypePair) (C : AreCompatible old new before after pairs) where
  worlds : (T U : Table) → Holds T before → Holds U after → Worlds old new before after pairs T U
  worlds T U h k = record {
    holds = C.holds;
    compatible = C.compatible;
    old_world = C.old_world;
    new_world = C.new_world;
    share = C.share;
    stay = C.stay;
    serves = record { world = C.serves.world; holds = C.serves.holds; table = h };
    serves_too = record { world = C.serves_too.world; holds = C.serves_too.holds; table = k };
    share_too = C.share_too;
    alone = C.alone;
  }

  -- an object has a new one
  abbrev KeptAt : List ℕ → List ℕ → Entity → Type 0
  KeptAt path name x = (y : Entity) × (object_at after path name ≡ Some y) × IsKeptEntity (new_name pairs) x y × EntityReached pairs (shared_std before after) (is_open_sel before) x

  of_path : (path name : List ℕ) (x : Entity) → is_exported name ≡ true → IsPublic old path ⊎ ((of_std (package_at before path) ≡ true) × (of_std (package_at after path) ≡ true)) → object_at before path name ≡ Some x → KeptAt path name x
  of_path path name x e i f =
      let k = object_kept old new before after pairs (types_of before) (types_of after) (worlds (types_of before) (types_of after) (λ n ne. refl) (λ n ne. refl)) path name x e i f in
      (k.0, k.1, k.2.0, k.2.1)

  nowhere : (name : List ℕ) (x : Entity) → object_at before [] name ≡ Some x → ⊥
  nowhere name x f = none_some (object_at before [] name) x (ap (λ (o : Option Package). entity_of (object_in o name)) C.serves.pathed) f

  pub settings_kept : (bits : ℕ) (u : PackageSource) → u.path ≡ client_path → ImportsShown old before after u → KeepsSettings (for_client bits before) (for_client bits after) u (new_name pairs) pairs (shared_std before after) (is_open_sel before)
  settings_kept bits u client shown = record {
    types = λ T U h k. preserves old new before after pairs T U (worlds T U h k);
    objects = λ file i name x has e f. elim (either i.is_found) [
      | inl w ↦ subst (λ path. KeptAt path name x) (sym (path_found i w)) (of_path i.path name x e (shown file i has w) (ap (λ path. object_at before path name) (sym (path_found i w)) ∙ f))
      | inr w ↦ absurd (nowhere name x (ap (λ path. object_at before path name) (sym (path_missing i w)) ∙ f))
    ];
    pathed = C.serves.pathed;
    pathed_too = C.serves_too.pathed;
    bits = refl;
    client = client;
    barred = refl;
    barred_too = refl;
  }
