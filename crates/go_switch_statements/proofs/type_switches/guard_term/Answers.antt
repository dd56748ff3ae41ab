use Rattle.go_type_switches.specs.go_clauses.Clauses.{IsGuardOf}
use Rattle.go_walks.proofs.Told.{asked_found}
use Rattle.go_switch_statements.proofs.type_switches.guard_term.Goals as goal

pub returns : goal.returns
returns c = asked_found (λ F. IsGuardOf F c.args.expr.now) c.new-context.result.env.now c.args.env.now c.new-context.ensures c.guard.result c.found.result c.found.ensures c.guard.ensures
