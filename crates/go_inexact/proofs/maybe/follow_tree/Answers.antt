use Rattle.std.proofs.Common.{subst, sym}
use Rattle.std.specs.Prelude.{IfOk}
use Rattle.std.proofs.lemmas.Result.{IfOk-weaker}
use Rattle.go_inexact.proofs.Following.{follows_tree}
use Rattle.go_inexact.specs.Maybe.{Follows, FollowsTree}
use Rattle.go_nodes.specs.Trees.{node_of, nodes_in}
use Rattle.go_nodes.specs.declared.tree.Tree.{Tree}
use Rattle.go_rules.specs.Nodes.{expression}
use Rattle.go_type_terms.specs.Answers.{env_in}
use Rattle.go_inexact.proofs.maybe.follow_tree.Goals as goal

pub returns-in-Expr : goal.returns-in-Expr
returns-in-Expr c =
    let E = env_in c.args.context.now in
    let e = c.in-Expr.expr.now in
    let old = nodes_in c.args.trees.now in
    let new = nodes_in c.follow.new.trees in
    subst (λ (t : Tree). IfOk c.follow.result (FollowsTree E (node_of t) old new)) (sym c.in-Expr.is)
    (IfOk-weaker c.follow.result (Follows E e old new) (FollowsTree E (expression e) old new) (follows_tree E e old new) c.follow.ensures)
