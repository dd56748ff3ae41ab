use Rattle.go_base.specs.Lists.{Each}
use Rattle.go_rules.specs.Asks.{Meets}
use Rattle.go_rules.specs.Nodes.{Node}
use Rattle.go_rules.specs.Scopes.{env_of}
use Rattle.go_selectors.specs.Answers.{Decides}
use Rattle.std.proofs.Common.{List, subst}
use Rattle.std.specs.Prelude.{IfOk}
use Rattle.go_switch_statements.proofs.type_switches.listed_meet.Goals as goal

pub returns : goal.returns
returns c = subst (λ (ns : List Node). IfOk c.trees_meet.result (λ b. Decides b (Each (Meets (env_of c.args.env.now)) ns))) c.in_ok-trees.ensures c.trees_meet.ensures
