use Rattle.go_client_typings.proofs.OneVetted.{one_vetted}
use Rattle.go_client_typings.proofs.laws.one_answer.Goals as goal

pub returns : goal.returns
returns c world bits u blocks v w a b = one_vetted world bits u blocks v w a b
