use Rattle.go_client_outcomes.proofs.VettedClients.{vetted_end}
use Rattle.go_client_outcomes.proofs.laws.vetted_exists.Goals as goal

pub returns : goal.returns
returns c = λ world bits u blocks is path. vetted_end world bits u blocks is (c.client_absent.ensures.packages world is) path
