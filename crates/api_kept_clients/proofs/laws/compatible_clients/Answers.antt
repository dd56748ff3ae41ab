use Rattle.go_type_images.specs.NewNames.{new_name}
use Rattle.go_client_packages.proofs.ClientsKept.{client_kept}
use Rattle.api_kept_clients.specs.ServedClients.{for_client}
use Rattle.api_kept_clients.proofs.ClientSettings.{AreCompatible, settings_kept}
use Rattle.api_kept_clients.proofs.laws.compatible_clients.Goals as goal
use Rattle.api_std_types.specs.api_kept_relations.StdTypes.{is_open_sel, shared_std}

pub returns : goal.returns
returns c old new before after pairs bits u blocks h k i j z y v w x a client shown =
    let C : AreCompatible old new before after pairs = record { holds = h; compatible = k; old_world = i; new_world = j; share = z; stay = y; serves = v; serves_too = w; share_too = x; alone = a } in
    client_kept (for_client bits before) (for_client bits after) u (new_name pairs) pairs (shared_std before after) (is_open_sel before) (settings_kept old new before after pairs C bits u client shown) blocks
