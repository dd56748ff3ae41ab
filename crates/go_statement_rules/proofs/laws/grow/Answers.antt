use Rattle.go_statement_rules.proofs.GrowStatements.{body_among_more, outside_among_more, typed_among_more}
use Rattle.go_statement_rules.proofs.laws.grow.Goals as goal

pub returns-clause-statements : goal.returns-clause-statements
returns-clause-statements c = typed_among_more

pub returns-clause-bodies : goal.returns-clause-bodies
returns-clause-bodies c = body_among_more

pub returns-clause-outside : goal.returns-clause-outside
returns-clause-outside c = outside_among_more
