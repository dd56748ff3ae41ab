use Rattle.go_exposed.proofs.OneKeptSet.{one_kept}
use Rattle.go_exposed.proofs.OneSkipped.{one_cause, one_list, one_skipped}
use Rattle.go_exposed.proofs.laws.one_skipped.Goals as goal

pub returns-clause-cause : goal.returns-clause-cause
returns-clause-cause c = λ s u n x y h k. one_cause s u n x y h k

pub returns-clause-package : goal.returns-clause-package
returns-clause-package c = λ s u S T a b xs ys k l i j. one_list s u S T (one_kept s u S T a b k l) xs ys i j

pub returns-clause-packages : goal.returns-clause-packages
returns-clause-packages c = λ bits us xs ys a b. one_skipped bits us xs ys a b
