use Rattle.go_leads.specs.Methods.{found_in}
use Rattle.go_leads.proofs.Walks.{Owes}
use Rattle.go_nodes.specs.Trees.{nodes_in}
use Rattle.go_type_terms.specs.Answers.{env_in}
use Rattle.go_leads.proofs.methods.push_all.Given as goal

abbrev pub invariant-loop : goal.invariant-loop
invariant-loop l = Owes (found_in (env_in l.context)) (nodes_in l.fn.trees) (nodes_in l.trees) l.initial.methods l.methods
