use Rattle.go_nodes.proofs.MeetsParts.{asks_begin, asks_done, asks_next, asks_not}
use Rattle.go_nodes.specs.Trees.{node_of, nodes_in}
use Rattle.go_type_terms.specs.Answers.{env_in}
use Rattle.go_asks.proofs.meets.meet.Goals as goal

pub loop-init : goal.loop-init
loop-init c = asks_begin (env_in c.args.context.now) (nodes_in c.args.trees)

pub returns-then-not-branch : goal.returns-then-not-branch
returns-then-not-branch c = asks_not (env_in c.args.context.now) (nodes_in c.args.trees) (nodes_in c.loop.trees) (nodes_in c.pop.new.self) (node_of c.in-Some.tree) c.in_ok-meets_here-in-Some.field-0 c.loop.invariant c.in-Some.ensures c.if-not-branch.true c.in_ok-meets_here-in-Some.ensures

pub returns-in-None : goal.returns-in-None
returns-in-None c = asks_done (env_in c.args.context.now) (nodes_in c.args.trees) (nodes_in c.loop.trees) c.loop.invariant c.in-None.ensures

pub loop-preserved : goal.loop-preserved
loop-preserved c = asks_next (env_in c.args.context.now) (nodes_in c.args.trees) (nodes_in c.loop.trees) (nodes_in c.pop.new.self) (nodes_in c.push_parts.new.self) (node_of c.in-Some.tree) c.in_ok-meets_here-in-Some.field-0 c.loop.invariant c.in-Some.ensures c.in_ok-push_parts-in-Some.ensures c.if-not-branch.false c.in_ok-meets_here-in-Some.ensures
