use Rattle.go_client_unit_laws.proofs.AlikeClients.{same_units}
use Rattle.go_client_unit_laws.proofs.laws.alike_client_units.Goals as goal

pub returns : goal.returns
returns c = λ p q barred tree std_tree client r a b d h. same_units c.files_by_name.ensures.sound barred tree std_tree client p q r a b d h
