use Rattle.go_inexact.proofs.Following.{maybe_begins, maybe_done, maybe_next, maybe_not}
use Rattle.go_nodes.specs.Trees.{node_of, nodes_in}
use Rattle.go_type_terms.specs.Answers.{env_in}
use Rattle.go_inexact.proofs.maybe.may_be_constant.Goals as goal

pub loop-init : goal.loop-init
loop-init c = maybe_begins (env_in c.args.context.now) c.args.expr.now (nodes_in c.new-trees.result) (nodes_in c.push.new.self) c.new-trees.ensures c.in_ok-push.ensures

pub loop-preserved : goal.loop-preserved
loop-preserved c =
    maybe_next (env_in c.args.context.now) c.args.expr.now (nodes_in c.loop.trees) (nodes_in c.pop.new.self) (nodes_in c.follow_tree.new.trees) (node_of c.in-Some.tree) c.loop.invariant c.in-Some.ensures
    c.in_ok-may-in-Some.may c.if-not-may.false c.in_ok-may-in-Some.ensures

pub returns-then-not-may : goal.returns-then-not-may
returns-then-not-may c =
    maybe_not (env_in c.args.context.now) c.args.expr.now (nodes_in c.loop.trees) (nodes_in c.pop.new.self) (nodes_in c.follow_tree.new.trees) (node_of c.in-Some.tree) c.loop.invariant c.in-Some.ensures
    c.in_ok-may-in-Some.may c.if-not-may.true c.in_ok-may-in-Some.ensures

pub returns-in-None : goal.returns-in-None
returns-in-None c = maybe_done (env_in c.args.context.now) c.args.expr.now (nodes_in c.loop.trees) c.loop.invariant c.in-None.ensures
