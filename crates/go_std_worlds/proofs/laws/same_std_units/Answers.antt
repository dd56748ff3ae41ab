use Rattle.go_std_worlds.proofs.TwoModules.{one_side, one_source}
use Rattle.go_std_worlds.proofs.laws.same_std_units.Goals as goal

pub returns-clause-sides : goal.returns-clause-sides
returns-clause-sides c = λ p barred std_tree old_tree new_tree old new u v k h l path. one_side p barred std_tree old_tree new_tree old new k u v h l path

pub returns-clause-same : goal.returns-clause-same
returns-clause-same c = λ p barred std_tree old_tree new_tree old new u v k h l path std. one_source p barred std_tree old_tree new_tree old new k (c.one_reading.ensures p) u v h l path std
