use Rattle.go_client_outcomes.proofs.TreeClients.{tree_clients_end}
use Rattle.go_client_outcomes.proofs.laws.client_units_or_refusal.Goals as goal
use Rattle.go_reading.proofs.OneFolderList.{own_side, std_side}
use Rattle.go_reading.proofs.PackageNames.{one_name}

pub returns : goal.returns
returns c = λ p barred tree std_tree client bars is std folder.
    tree_clients_end p barred tree std_tree client (one_name c.one_header.ensures.header c.one_header.ensures.either p) (own_side p barred tree std_tree) (std_side p barred tree std_tree bars) is std folder
