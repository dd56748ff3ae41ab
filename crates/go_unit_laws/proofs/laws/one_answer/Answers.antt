use Rattle.go_unit_laws.proofs.OneAnswer.{apart_of, one_error_of, one_units_of}
use Rattle.go_unit_laws.proofs.laws.one_answer.Goals as goal

pub returns-clause-units : goal.returns-clause-units
returns-clause-units c = λ p barred tree std_tree a b s t. one_units_of c.one_folder_list.ensures.one c.one_reading.ensures p barred tree std_tree a b s t

pub returns-clause-refusal : goal.returns-clause-refusal
returns-clause-refusal c = λ p barred tree std_tree d e s t a b. one_error_of c.one_folder_list.ensures.one c.one_reading.ensures p barred tree std_tree d e s t a b

pub returns-clause-apart : goal.returns-clause-apart
returns-clause-apart c = λ p barred tree std_tree a e t s b. apart_of c.one_folder_list.ensures.one c.one_reading.ensures p barred tree std_tree a e t s b
