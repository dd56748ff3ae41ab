use Rattle.go_client_packages.proofs.ClientsKept.{client_kept}
use Rattle.go_client_packages.proofs.laws.kept_clients.Goals as goal

pub returns : goal.returns
returns c s t u r pairs std is_open K blocks x = client_kept s t u r pairs std is_open K blocks x
