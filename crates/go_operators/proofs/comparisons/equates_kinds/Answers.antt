use Rattle.go_rules.specs.Scopes.{env_of}
use Rattle.go_rules.specs.Usability.{Match}
use Rattle.go_operators.proofs.Answers.{found_some, found_none}
use Rattle.go_operators.proofs.Comparing.{kinds_none, kinds_decides}
use Rattle.go_operators.proofs.comparisons.equates_kinds.Goals as goal

pub returns-in-Some : goal.returns-in-Some
returns-in-Some c = kinds_decides (env_of c.args.context.now.env.now) c.args.left.now c.args.right.now _ c.is_kind.result (found_some (Match (env_of c.args.context.now.env.now) c.args.left.now c.args.right.now) _ _ c.in-Some.is c.in_ok-of.ensures) c.is_kind.ensures

pub returns-in-None : goal.returns-in-None
returns-in-None c = kinds_none (env_of c.args.context.now.env.now) c.args.left.now c.args.right.now (found_none (Match (env_of c.args.context.now.env.now) c.args.left.now c.args.right.now) _ c.in-None.is c.in_ok-of.ensures)
