use Rattle.go_base.specs.Lists.{Each}
use Rattle.go_nodes.specs.Trees.{nodes_in}
use Rattle.go_rules.specs.Asks.{Meets}
use Rattle.go_walks.proofs.Told.{asked_so}
use Rattle.go_switch_statements.proofs.type_switches.trees_meet.Goals as goal

pub returns : goal.returns
returns c = asked_so (λ F. Each (Meets F) (nodes_in c.args.trees)) c.new-context.result.env.now c.args.env.now c.new-context.ensures c.meet.result c.meet.ensures
