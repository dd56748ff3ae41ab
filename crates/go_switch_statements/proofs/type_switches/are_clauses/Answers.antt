use Rattle.go_type_switches.specs.Switches.{AreClausesOf}
use Rattle.go_walks.proofs.Told.{asked_holds}
use Rattle.go_switch_statements.proofs.type_switches.are_clauses.Goals as goal

pub returns : goal.returns
returns c = asked_holds (λ F. AreClausesOf F c.args.interface.now c.args.cases.now) c.new-context.result.env.now c.args.env.now c.new-context.ensures c.clauses.result c.holds.result c.holds.ensures c.clauses.ensures
