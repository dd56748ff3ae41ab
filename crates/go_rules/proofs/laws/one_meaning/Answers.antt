use Rattle.go_rules.proofs.OneName.{one_denoted, one_imported, no_import, one_type_name}
use Rattle.go_rules.proofs.laws.one_meaning.Goals as goal

pub returns-clause-name : goal.returns-clause-name
returns-clause-name c = λ E n o p a b. one_denoted a b

pub returns-clause-imported : goal.returns-clause-imported
returns-clause-imported c = λ E q n o p a b. one_imported a b

pub returns-clause-apart : goal.returns-clause-apart
returns-clause-apart c = λ E q n o p a b. no_import a b

pub returns-clause-of_type : goal.returns-clause-of_type
returns-clause-of_type c = λ E q t u a b. one_type_name E q a b
