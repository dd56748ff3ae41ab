use Rattle.go_reading.proofs.UnitPaths.{unit_path}
use Rattle.go_reading.proofs.laws.unit_paths.Goals as goal

pub returns : goal.returns
returns c = λ p barred tree std_tree units a b some k u h. unit_path p barred tree std_tree a b some units k u h
