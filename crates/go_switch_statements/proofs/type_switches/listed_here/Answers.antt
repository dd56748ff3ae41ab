use Rattle.go_statement_rules.specs.Statements.{AreListed}
use Rattle.go_walks.proofs.Told.{asked_found}
use Rattle.go_switch_statements.proofs.type_switches.listed_here.Goals as goal

pub returns : goal.returns
returns c = asked_found (λ F. AreListed F c.args.interface.now c.args.forms.now) c.new-context.result.env.now c.args.env.now c.new-context.ensures c.listed.result c.found.result c.found.ensures c.listed.ensures
