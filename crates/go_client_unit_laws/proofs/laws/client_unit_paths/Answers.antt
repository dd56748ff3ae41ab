use Rattle.go_client_unit_laws.proofs.ClientPaths.{unit_path}
use Rattle.go_client_unit_laws.proofs.laws.client_unit_paths.Goals as goal

pub returns : goal.returns
returns c = λ p barred tree std_tree client r a b some k u h. unit_path p barred tree std_tree client a b some r k u h
