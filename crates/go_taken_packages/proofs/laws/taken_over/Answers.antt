use Rattle.go_taken_packages.proofs.TakenOver.{packages}
use Rattle.go_taken_packages.proofs.TakenWorlds.{outcomes}
use Rattle.go_taken_packages.proofs.laws.taken_over.Goals as goal

pub returns-clause-packages : goal.returns-clause-packages
returns-clause-packages c = λ bits us vs w v taken own other t k l path i. packages bits us vs w v taken own other t k l path i

pub returns-clause-outcomes : goal.returns-clause-outcomes
returns-clause-outcomes c = λ bits us vs xs ys w v taken own other t a b m n u x y e f g h i. outcomes bits us vs xs ys w v taken own other a b t m n u x y e f g h i
