use Rattle.go_std_worlds.proofs.TwoModules.{have_paths, packages_same, sides_same}
use Rattle.go_std_worlds.proofs.laws.same_std_packages.Goals as goal

pub returns-clause-sides : goal.returns-clause-sides
returns-clause-sides c = λ p barred std_tree old_tree new_tree old new bits w v k o n x y path a b e f. sides_same p barred std_tree old_tree new_tree old new k (have_paths old o) (have_paths new n) bits w v x y path a b e f

pub returns-clause-same : goal.returns-clause-same
returns-clause-same c = λ p barred std_tree old_tree new_tree old new bits w v k o n x y path a b e f std. packages_same p barred std_tree old_tree new_tree old new k (c.one_reading.ensures p) (have_paths old o) (have_paths new n) bits w v x y path a b e f std
