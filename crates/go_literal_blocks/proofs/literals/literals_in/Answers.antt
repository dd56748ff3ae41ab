use Rattle.go_literal_blocks.specs.Literals.{forms_in}
use Rattle.go_literal_blocks.proofs.Gathering.{gathers_begin, gathers_done, gathers_next}
use Rattle.go_nodes.specs.Trees.{node_of, nodes_in}
use Rattle.std.proofs.Common.{ap}
use Rattle.go_literal_blocks.proofs.literals.literals_in.Goals as goal

pub loop-init : goal.loop-init
loop-init c = gathers_begin (nodes_in c.args.trees) (forms_in c.new-found.result) (ap forms_in c.new-found.ensures)

pub loop-preserved : goal.loop-preserved
loop-preserved c = gathers_next (nodes_in c.pop.new.self) (node_of c.in-Some.tree) (nodes_in c.args.trees) (nodes_in c.loop.trees) (nodes_in c.push_parts.new.self) (forms_in c.loop.found) (forms_in c.note.new.found) c.in-Some.ensures c.in_ok-push_parts-in-Some.ensures c.in_ok-note-in-Some.ensures c.loop.invariant

pub returns-in-None : goal.returns-in-None
returns-in-None c = gathers_done (nodes_in c.args.trees) (nodes_in c.loop.trees) (forms_in c.loop.found) c.in-None.ensures c.loop.invariant
