use Rattle.go_rules.proofs.OneKind.{one_type, one_untyped, typed_or_untyped, one_of, one_kind, one_match}
use Rattle.go_rules.proofs.laws.one_type.Goals as goal

pub returns-clause-typed : goal.returns-clause-typed
returns-clause-typed c = λ o t u a b. one_type a b

pub returns-clause-untyped : goal.returns-clause-untyped
returns-clause-untyped c = λ o j k a b. one_untyped a b

pub returns-clause-apart : goal.returns-clause-apart
returns-clause-apart c = λ o t k a b. typed_or_untyped a b

pub returns-clause-either : goal.returns-clause-either
returns-clause-either c = λ o d e a b. one_of a b

pub returns-clause-kind : goal.returns-clause-kind
returns-clause-kind c = λ E d j k a b. one_kind a b

pub returns-clause-matching : goal.returns-clause-matching
returns-clause-matching c = λ E left right d e a b. one_match a b
