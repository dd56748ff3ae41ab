use Rattle.go_rules.proofs.OneOperand.{type_once, of_once, signature_once, parameters_once, result_once, fields_once, methods_once}
use Rattle.go_rules.proofs.laws.one_term.Goals as goal

pub returns-clause-whole : goal.returns-clause-whole
returns-clause-whole c = λ E t u v a b. type_once E a.stands_for b.stands_for

pub returns-clause-of_type : goal.returns-clause-of_type
returns-clause-of_type c = λ E t u v a b. type_once E a b

pub returns-clause-form : goal.returns-clause-form
returns-clause-form c = λ E l u v a b. of_once E a b

pub returns-clause-signature : goal.returns-clause-signature
returns-clause-signature c = λ E ds r g h a b. signature_once E a b

pub returns-clause-parameters : goal.returns-clause-parameters
returns-clause-parameters c = λ E ds ts us v w a b. parameters_once E a b

pub returns-clause-results : goal.returns-clause-results
returns-clause-results c = λ E l ts us a b. result_once E a b

pub returns-clause-fields : goal.returns-clause-fields
returns-clause-fields c = λ E ds fs gs a b. fields_once E a b

pub returns-clause-methods : goal.returns-clause-methods
returns-clause-methods c = λ E xs ms ns a b. methods_once E a b
