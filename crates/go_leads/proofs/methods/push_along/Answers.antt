use Rattle.std.proofs.Common.{arith}
use Rattle.go_expr.specs.Chains.{Makes}
use Rattle.go_leads.proofs.GrownMethods.{follows_all, follows_end, follows_next, follows_none, none_told}
use Rattle.go_type_terms.specs.Answers.{env_in}
use Rattle.go_leads.proofs.methods.push_along.Goals as goal

pub loop-post-init : goal.loop-post-init
loop-post-init c = follows_all (env_in c.args.context.now) c.args.first c.args.posts.now c.args.methods.now

pub loop-post-preserved : goal.loop-post-preserved
loop-post-preserved c = follows_next (env_in c.args.context.now) c.args.first c.args.posts.now c.args.methods.now c.loop-post.operand c.loop-post.methods c.loop-post.post-index c.loop-post.invariant c.post-item.result c.loop-post-test.true c.post-item.is c.push_post.new.methods c.in_ok-push_post.ensures c.in-Ok.next c.in-Ok.ensures

pub returns-in-Err-Untyped : goal.returns-in-Err-Untyped
returns-in-Err-Untyped c =
    let E = env_in c.args.context.now in
    follows_end E c.args.first c.args.posts.now c.args.methods.now c.loop-post.operand c.loop-post.methods c.loop-post.post-index c.loop-post.invariant c.post-item.result c.loop-post-test.true c.post-item.is c.push_post.new.methods c.in_ok-push_post.ensures
    (none_told (Makes E c.loop-post.operand c.post-item.result) c.in-Err-Untyped.field-0 c.in-Err-Untyped.field-0-is c.in-Err-Untyped.ensures)

pub returns : goal.returns
returns c = follows_none (env_in c.args.context.now) c.args.first c.args.posts.now c.args.methods.now c.loop-post.operand c.loop-post.methods c.loop-post.post-index c.loop-post.invariant (omega arith)
