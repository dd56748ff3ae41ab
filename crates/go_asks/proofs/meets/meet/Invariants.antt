use Rattle.go_nodes.proofs.MeetsParts.{SameAsks}
use Rattle.go_nodes.specs.Trees.{nodes_in}
use Rattle.go_type_terms.specs.Answers.{env_in}
use Rattle.go_asks.proofs.meets.meet.Given as goal

abbrev pub invariant-loop : goal.invariant-loop
invariant-loop l = SameAsks (env_in l.context) (nodes_in l.fn.trees) (nodes_in l.trees)
