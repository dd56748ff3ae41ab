use Rattle.go_statement_rules.proofs.OnePlace.{one_place, typed_no_place, typed_or_place}
use Rattle.go_statement_rules.proofs.laws.one_answer.Goals as goal

pub returns-clause-one : goal.returns-clause-one
returns-clause-one c = one_place

pub returns-clause-not_both : goal.returns-clause-not_both
returns-clause-not_both c = typed_no_place

pub returns-clause-not_neither : goal.returns-clause-not_neither
returns-clause-not_neither c = typed_or_place
