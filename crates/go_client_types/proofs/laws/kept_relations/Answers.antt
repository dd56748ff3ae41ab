use Rattle.go_client_types.proofs.Assigning.{assignable_kept, convertible_kept, match_kept, usable_kept}
use Rattle.go_client_types.proofs.Implementing.{implements_kept}
use Rattle.go_client_types.proofs.Relations.{comparable, compares, entered}
use Rattle.go_client_types.proofs.laws.kept_relations.Goals as goal

pub returns-clause-comparable : goal.returns-clause-comparable
returns-clause-comparable c = λ E F r pairs std is_open K t h x. comparable E F r pairs std is_open K t h x

pub returns-clause-entered : goal.returns-clause-entered
returns-clause-entered c = λ E F r pairs std is_open K t h x. entered E F r pairs std is_open K t h x

pub returns-clause-compares : goal.returns-clause-compares
returns-clause-compares c = λ E F r pairs std is_open K t h x. compares E F r pairs std is_open K t h x

pub returns-clause-implements : goal.returns-clause-implements
returns-clause-implements c = λ E F r pairs std is_open K t i h k x. implements_kept E F r pairs std is_open K t i h k x

pub returns-clause-assignable : goal.returns-clause-assignable
returns-clause-assignable c = λ E F r pairs std is_open K t u h k x. assignable_kept E F r pairs std is_open K t u h k x

pub returns-clause-convertible : goal.returns-clause-convertible
returns-clause-convertible c = λ E F r pairs std is_open K t u h k x. convertible_kept E F r pairs std is_open K t u h k x

pub returns-clause-usable : goal.returns-clause-usable
returns-clause-usable c = λ E F r pairs std is_open K o p t a h x. usable_kept E F r pairs std is_open K a h x

pub returns-clause-matching : goal.returns-clause-matching
returns-clause-matching c = λ E F r pairs std is_open K o p x y k a b m. match_kept E F r pairs std is_open K a b m
