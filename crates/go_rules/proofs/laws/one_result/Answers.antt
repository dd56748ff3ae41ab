use Rattle.go_rules.proofs.OneResult.{one_computes, one_shifts, one_product, one_comparison, one_conversion, one_sliced}
use Rattle.go_rules.proofs.laws.one_result.Goals as goal

pub returns-clause-computes : goal.returns-clause-computes
returns-clause-computes c = λ E op left right r s a b. one_computes a b

pub returns-clause-shifts : goal.returns-clause-shifts
returns-clause-shifts c = λ E left l o r s a b. one_shifts a b

pub returns-clause-product : goal.returns-clause-product
returns-clause-product c = λ E p l o r s a b. one_product E p l o a b

pub returns-clause-comparison : goal.returns-clause-comparison
returns-clause-comparison c = λ E op left right r s a b. one_comparison a b

pub returns-clause-conversion : goal.returns-clause-conversion
returns-clause-conversion c = λ E o t r s a b. one_conversion a b

pub returns-clause-sliced : goal.returns-clause-sliced
returns-clause-sliced c = λ E simple other o m n r s a b. one_sliced a b
