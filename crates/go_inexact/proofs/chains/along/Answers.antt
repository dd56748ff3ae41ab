use Rattle.std.proofs.Common.{arith}
use Rattle.go_expr.specs.Chains.{Makes}
use Rattle.go_inexact.proofs.Answered.{untold}
use Rattle.go_inexact.proofs.Chained.{goes_all, goes_end, goes_next, goes_none}
use Rattle.go_type_terms.specs.Answers.{env_in}
use Rattle.go_inexact.proofs.chains.along.Goals as goal

pub loop-post-init : goal.loop-post-init
loop-post-init c = goes_all (env_in c.args.context.now) c.args.first c.args.posts.now

pub loop-post-preserved : goal.loop-post-preserved
loop-post-preserved c = goes_next (env_in c.args.context.now) c.args.first c.args.posts.now c.loop-post.operand c.loop-post.post-index c.loop-post.invariant c.post-item.result c.loop-post-test.true c.post-item.is c.in-Ok.next c.in-Ok.ensures

pub returns-in-Err-Untyped : goal.returns-in-Err-Untyped
returns-in-Err-Untyped c =
    let E = env_in c.args.context.now in
    goes_end E c.args.first c.args.posts.now c.loop-post.operand c.loop-post.post-index c.loop-post.invariant c.post-item.result c.loop-post-test.true c.post-item.is
    (untold (Makes E c.loop-post.operand c.post-item.result) c.in-Err-Untyped.field-0 c.in-Err-Untyped.field-0-is c.in-Err-Untyped.ensures)

pub returns : goal.returns
returns c = goes_none (env_in c.args.context.now) c.args.first c.args.posts.now c.loop-post.operand c.loop-post.post-index c.loop-post.invariant (omega arith)
