use Rattle.go_type_switches.specs.go_clauses.Clauses.{AreCasesOf}
use Rattle.go_walks.proofs.Told.{asked_so}
use Rattle.go_switch_statements.proofs.switches.are_cases.Goals as goal

pub returns : goal.returns
returns c = asked_so (λ F. AreCasesOf F c.args.term.now c.args.exprs.now) c.new-context.result.env.now c.args.env.now c.new-context.ensures c.cases.result c.cases.ensures
