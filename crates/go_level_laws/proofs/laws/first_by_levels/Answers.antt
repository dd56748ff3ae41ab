use Rattle.go_level_laws.proofs.Orders.{none_before, refused_by_levels}
use Rattle.go_level_laws.proofs.laws.first_by_levels.Goals as goal

pub returns-clause-first : goal.returns-clause-first
returns-clause-first c = λ bits us level a n r o rises by e k. refused_by_levels bits us o.own_paths o.paths o.rises level rises a by n r e k

pub returns-clause-none_before : goal.returns-clause-none_before
returns-clause-none_before c = λ bits us level a m n q r o rises by first e. none_before bits us o.own_paths o.paths level a m n q r o.rises rises by first e
