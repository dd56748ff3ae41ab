use Rattle.go_client_operators.proofs.Operators.{array_kept, count_kept, equates_kept, index_kept, string_kept}
use Rattle.go_client_operators.proofs.laws.kept_operands.Goals as goal

pub returns-clause-count : goal.returns-clause-count
returns-clause-count c = λ E F r pairs std is_open K o p v a x. count_kept E F r pairs std is_open K a x

pub returns-clause-index : goal.returns-clause-index
returns-clause-index c = λ E F r pairs std is_open K o p n a x. index_kept E F r pairs std is_open K a x

pub returns-clause-string : goal.returns-clause-string
returns-clause-string c = λ E F r pairs std is_open K o p n a x. string_kept E F r pairs std is_open K a x

pub returns-clause-array : goal.returns-clause-array
returns-clause-array c = λ E F r pairs std is_open K t e q n h x. array_kept E F r pairs std is_open K h x

pub returns-clause-equates : goal.returns-clause-equates
returns-clause-equates c = λ E F r pairs std is_open K l o m p a b x. equates_kept E F r pairs std is_open K a b x
