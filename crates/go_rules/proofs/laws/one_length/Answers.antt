use Rattle.go_rules.proofs.OneResult.{one_index, one_count, one_string, one_length, one_element, one_limit}
use Rattle.go_rules.proofs.laws.one_length.Goals as goal

pub returns-clause-index : goal.returns-clause-index
returns-clause-index c = λ E o d e a b. one_index a b

pub returns-clause-count : goal.returns-clause-count
returns-clause-count c = λ E o v w a b. one_count a b

pub returns-clause-string : goal.returns-clause-string
returns-clause-string c = λ E o m n a b. one_string a b

pub returns-clause-array : goal.returns-clause-array
returns-clause-array c = λ E t p q m n u v a b. one_length a b

pub returns-clause-element : goal.returns-clause-element
returns-clause-element c = λ E t p q m n u v a b. one_element a b

pub returns-clause-sliced : goal.returns-clause-sliced
returns-clause-sliced c = λ E simple other o m n r s a b. one_limit a b
