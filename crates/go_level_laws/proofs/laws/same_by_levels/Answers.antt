use Rattle.go_level_laws.proofs.Orders.{levels_of_turns, listed_turns}
use Rattle.go_level_laws.proofs.laws.same_by_levels.Goals as goal

pub returns-clause-levels : goal.returns-clause-levels
returns-clause-levels c = λ bits us level xs w o rises b. levels_of_turns bits us o.own_paths o.paths o.rises level rises xs w b

pub returns-clause-turns : goal.returns-clause-turns
returns-clause-turns c = λ bits us level xs o rises l by. listed_turns bits us o.own_paths o.paths o.rises level rises xs l by
