-- The environments of a client over compatible worlds: the new one keeps the old one.
use Rattle.std.proofs.Common.{◌≡◌, ◌∙◌, sym, List}
use Rattle.go_model.specs.worlds.Worlds.{Packages}
use Rattle.go_rules.specs.Environments.{Env}
use Rattle.go_type_images.specs.NewNames.{new_name}
use Rattle.go_type_images.specs.declared.pair.TypePair.{TypePair}
use Rattle.go_client_types.specs.Keeping.{Keeps}
use Rattle.api_kept_relations.specs.ClientScopes.{FollowsClient, SeesWorlds}
use Rattle.api_kept_relations.specs.StdTypes.{is_open_sel, shared_std}
use Rattle.api_kept_relations.proofs.Objects.{object_kept}
use Rattle.api_kept_relations.proofs.Pairs.{Worlds}
use Rattle.api_kept_relations.proofs.Preserving.{preserves}

module _ (old new before after : Packages) (pairs : List TypePair) (E F : Env) (D : Worlds old new before after pairs E.table F.table) (S : SeesWorlds old before after E F) (K : FollowsClient E F (new_name pairs) pairs (shared_std before after) (is_open_sel before)) where
  pub keeps : Keeps E F (new_name pairs) pairs (shared_std before after) (is_open_sel before)
  keeps = record {
    types = preserves old new before after pairs E.table F.table D;
    entries = K.entries;
    own_entries = K.own_entries;
    missing = K.missing;
    none_missing = K.none_missing;
    meanings = K.meanings;
    objects = λ name path object x m e f.
        let h = object_kept old new before after pairs E.table F.table D path object x e (S.imports name path m) (sym (S.objects path object) ∙ f) in
        (h.0, S.objects_too path object ∙ h.1, h.2.0, h.2.1);
    path = K.path;
    bits = K.bits;
    iota = K.iota;
    client = K.client;
    barred = K.barred;
    barred_too = K.barred_too;
  }
