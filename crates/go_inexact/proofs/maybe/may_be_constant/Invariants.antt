use Rattle.go_inexact.proofs.Following.{SameMaybe}
use Rattle.go_nodes.specs.Trees.{nodes_in}
use Rattle.go_type_terms.specs.Answers.{env_in}
use Rattle.go_inexact.proofs.maybe.may_be_constant.Given as goal

abbrev pub invariant-loop : goal.invariant-loop
invariant-loop l = SameMaybe (env_in l.context) l.expr (nodes_in l.trees)
