use Rattle.go_beyond.proofs.NumbersInParts.{SameNumbers}
use Rattle.go_declarations.specs.Forms.{form_of}
use Rattle.go_nodes.specs.Trees.{nodes_in}
use Rattle.go_beyond.proofs.numbers.has_number.Given as goal

abbrev pub invariant-loop : goal.invariant-loop
invariant-loop l = SameNumbers (form_of l.fn.form) (nodes_in l.trees)
