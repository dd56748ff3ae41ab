use Rattle.go_std_worlds.proofs.TwoModules.{apart, own_under, std_apart}
use Rattle.go_std_worlds.proofs.laws.std_units.Goals as goal

pub returns-clause-apart : goal.returns-clause-apart
returns-clause-apart c = λ p barred std_tree tree units k. apart p barred std_tree tree units k

pub returns-clause-std : goal.returns-clause-std
returns-clause-std c = λ p barred std_tree tree units u root k h std bars under. std_apart p barred std_tree tree units k u root h std bars under

pub returns-clause-own : goal.returns-clause-own
returns-clause-own c = λ p barred std_tree tree units u k h own. own_under p barred std_tree tree units k u h own
