use Rattle.go_type_images.specs.NewNames.{new_name}
use Rattle.go_client_packages.proofs.ClientsKept.{client_kept}
use Rattle.api_kept_clients.specs.ServedClients.{for_client}
use Rattle.api_kept_clients.proofs.ClientSettings.{settings_kept}
use Rattle.api_kept_clients.proofs.UnitWorlds.{are_compatible}
use Rattle.api_kept_clients.proofs.laws.clients_of_units.Goals as goal
use Rattle.api_std_types.specs.api_kept_relations.StdTypes.{is_open_sel, shared_std}

pub returns : goal.returns
returns c bits us vs bs xs old new before after pairs u blocks s t g h k m client shown =
    let C = are_compatible bits us vs bs xs old new before after pairs s t g h k m in
    client_kept (for_client bits before) (for_client bits after) u (new_name pairs) pairs (shared_std before after) (is_open_sel before) (settings_kept old new before after pairs C bits u client shown) blocks
