use Rattle.std.proofs.Common.{◌+◌, drop, Bool, sym, subst, arith}
use Rattle.go_literals.specs.go_type_terms.Answers.{env_in}
use Rattle.go_expr.proofs.Running.{Going, posts_handed, posts_next, posts_whole}
use Rattle.go_expr.proofs.exprs.Exprs.posts.Goals as goal

pub returns-in_err-next : goal.returns-in_err-next
returns-in_err-next g c =
    let E = env_in c.args.self.now.literals.operations.typing.context.now in
    posts_handed E c.args.first c.args.posts.now c.loop-post.operand c.loop-post.post-index c.post-item.result c.loop-post.loud c.loop-post-test.true c.post-item.is c.loop-post.invariant c.in_err-next.field-0.0 c.from_residual.result c.from_residual.ensures.1 c.in_err-next.ensures

pub loop-post-preserved : goal.loop-post-preserved
loop-post-preserved g c =
    let E = env_in c.args.self.now.literals.operations.typing.context.now in
    let ps = c.args.posts.now in
    subst (λ (b : Bool). Going E c.args.first ps c.in_ok-next.next (drop (c.loop-post.post-index + 1) ps) b) (sym c.either-loud.ensures)
    (posts_next E c.args.first ps c.loop-post.operand c.in_ok-next.next c.loop-post.post-index c.post-item.result c.loop-post.loud c.in_ok-next.louder c.loop-post-test.true c.post-item.is c.in_ok-next.ensures c.loop-post.invariant)

pub returns : goal.returns
returns g c = posts_whole (env_in c.args.self.now.literals.operations.typing.context.now) c.args.first c.args.posts.now c.loop-post.operand c.loop-post.post-index c.loop-post.loud (omega arith) c.loop-post.invariant
