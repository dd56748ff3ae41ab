use Rattle.go_leads.specs.Listed.{names_of}
use Rattle.go_leads.proofs.Walks.{Owes}
use Rattle.go_nodes.specs.Trees.{nodes_in}
use Rattle.go_type_terms.specs.Answers.{env_in}
use Rattle.go_typings.specs.References.{IsFieldKey}
use Rattle.go_leads.proofs.keys.push_all.Given as goal

abbrev pub invariant-loop : goal.invariant-loop
invariant-loop l = Owes (IsFieldKey (env_in l.context)) (nodes_in l.fn.trees) (nodes_in l.trees) (names_of l.initial.keys) (names_of l.keys)
