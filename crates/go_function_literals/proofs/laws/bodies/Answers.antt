use Rattle.go_function_literals.proofs.BodyEnds.{parsed_end, skipped_end}
use Rattle.go_function_literals.proofs.StatementSites.{stmts_sites}
use Rattle.go_function_literals.proofs.laws.bodies.Goals as goal

pub returns-clause-skipped : goal.returns-clause-skipped
returns-clause-skipped c literals n h ts ss rest d = stmts_sites skipped_end d

pub returns-clause-parsed : goal.returns-clause-parsed
returns-clause-parsed c literals n h ts ss rest d = stmts_sites (parsed_end literals n) d
