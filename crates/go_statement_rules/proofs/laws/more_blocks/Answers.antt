use Rattle.go_statement_rules.proofs.MoreBlocks.{body_with_more, outside_with_more, typed_with_more}
use Rattle.go_statement_rules.proofs.laws.more_blocks.Goals as goal

pub returns-clause-statements : goal.returns-clause-statements
returns-clause-statements c = typed_with_more

pub returns-clause-bodies : goal.returns-clause-bodies
returns-clause-bodies c = body_with_more

pub returns-clause-outside : goal.returns-clause-outside
returns-clause-outside c = outside_with_more
