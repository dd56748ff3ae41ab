use Rattle.go_literal_blocks.proofs.Gathering.{Gathers}
use Rattle.go_literal_blocks.specs.Literals.{forms_in}
use Rattle.go_nodes.specs.Trees.{nodes_in}
use Rattle.go_literal_blocks.proofs.literals.literals_in.Given as goal

abbrev pub invariant-loop : goal.invariant-loop
invariant-loop l = Gathers (nodes_in l.fn.trees) (forms_in l.found) (nodes_in l.trees)
