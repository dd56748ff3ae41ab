use Rattle.go_asks.specs.go_expr.Chains.{Makes}
use Rattle.go_rules.specs.Expressions.{HasPosts}
use Rattle.go_type_terms.specs.Answers.{env_in}
use Rattle.go_type_terms.proofs.Handed.{told_told}
use Rattle.go_assignments.proofs.Chains.{follows_begins, follows_done, follows_first, follows_next}
use Rattle.go_assignments.proofs.alone.along.Goals as goal

pub loop-post-init : goal.loop-post-init
loop-post-init c = follows_begins (env_in c.args.context.now) c.args.first c.args.posts.now

pub loop-post-preserved : goal.loop-post-preserved
loop-post-preserved c =
    follows_next (env_in c.args.context.now) c.args.first c.args.posts.now c.loop-post.operand c.loop-post.post-index c.loop-post.invariant c.post-item.result c.loop-post-test.true c.post-item.is c.in_ok-next.next c.in_ok-next.ensures

pub returns-in_err-next : goal.returns-in_err-next
returns-in_err-next c =
    let E = env_in c.args.context.now in
    told_told (Makes E c.loop-post.operand c.post-item.result) (HasPosts E c.args.first c.args.posts.now) c.in_err-next.field-0.0 c.from_residual.result c.from_residual.ensures.1 c.in_err-next.ensures
    (follows_first E c.args.first c.args.posts.now c.loop-post.operand c.loop-post.post-index c.loop-post.invariant c.post-item.result c.loop-post-test.true c.post-item.is)

pub returns : goal.returns
returns c = follows_done (env_in c.args.context.now) c.args.first c.args.posts.now c.loop-post.operand c.loop-post.post-index c.loop-post.invariant c.loop-post-test.false
