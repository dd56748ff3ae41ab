use Rattle.api_gate.proofs.ClientsKept.{clients_kept}
use Rattle.api_gate.proofs.laws.clients_kept.Goals as goal

pub returns : goal.returns
returns c words told = clients_kept c.preservation.ensures words told
