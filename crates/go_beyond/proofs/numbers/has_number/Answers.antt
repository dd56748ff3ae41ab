use Rattle.go_beyond.proofs.NumbersInParts.{number_found, numbers_begin, numbers_next, numbers_none}
use Rattle.go_declarations.specs.Forms.{form_of}
use Rattle.go_nodes.specs.Trees.{node_of, nodes_in}
use Rattle.go_beyond.proofs.numbers.has_number.Goals as goal

pub loop-init : goal.loop-init
loop-init c = numbers_begin (form_of c.args.form) (nodes_in c.in_ok-trees.trees) c.in_ok-trees.ensures

pub returns-then-is_number_here : goal.returns-then-is_number_here
returns-then-is_number_here c = number_found (form_of c.args.form) (nodes_in c.loop.trees) (nodes_in c.pop.new.self) (node_of c.in-Some.tree) c.loop.invariant c.in-Some.ensures c.is_number_here.result c.if-is_number_here.true c.is_number_here.ensures

pub returns-in-None : goal.returns-in-None
returns-in-None c = numbers_none (form_of c.args.form) (nodes_in c.loop.trees) c.loop.invariant c.in-None.ensures

pub loop-preserved : goal.loop-preserved
loop-preserved c = numbers_next (form_of c.args.form) (nodes_in c.loop.trees) (nodes_in c.pop.new.self) (node_of c.in-Some.tree) c.loop.invariant c.in-Some.ensures (nodes_in c.push_parts.new.self) c.is_number_here.result c.in_ok-push_parts-in-Some.ensures c.if-is_number_here.false c.is_number_here.ensures
