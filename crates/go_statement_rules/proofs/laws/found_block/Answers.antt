use Rattle.go_statement_rules.proofs.FoundBlocks.{by_place, of_list}
use Rattle.go_statement_rules.proofs.laws.found_block.Goals as goal

pub returns-clause-of_list : goal.returns-clause-of_list
returns-clause-of_list c = of_list

pub returns-clause-by_place : goal.returns-clause-by_place
returns-clause-by_place c = by_place
