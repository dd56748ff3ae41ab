use Rattle.go_rules.specs.Scopes.{env_of}
use Rattle.go_rules.specs.Usability.{Match}
use Rattle.go_operators.proofs.Answers.{found_some}
use Rattle.go_operators.proofs.Comparing.{order_decides, order_no_kind}
use Rattle.go_operators.proofs.comparisons.is_ordered.Goals as goal

pub returns-in-Some-kind_of : goal.returns-in-Some-kind_of
returns-in-Some-kind_of c = order_decides (env_of c.args.context.now.env.now) c.args.op c.args.left.now c.args.right.now _ c.in-Some-kind_of.kind c.class.result c.has_comparison.result (found_some (Match (env_of c.args.context.now.env.now) c.args.left.now c.args.right.now) _ _ c.in-Some.is c.in_ok-term.ensures) c.in-Some-kind_of.ensures c.class.ensures c.has_comparison.ensures

pub returns : goal.returns
returns c = order_no_kind (env_of c.args.context.now.env.now) c.args.op c.args.left.now c.args.right.now _ (found_some (Match (env_of c.args.context.now.env.now) c.args.left.now c.args.right.now) _ _ c.in-Some.is c.in_ok-term.ensures) c.in-None-kind_of.ensures
