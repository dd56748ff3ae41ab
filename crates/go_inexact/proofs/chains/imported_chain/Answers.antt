use Rattle.std.proofs.Common.{◌-◌, drop, length, sym, take}
use Rattle.go_expr.proofs.PrimaryExprs.{behind_first}
use Rattle.go_expr.specs.Chains.{NamesImported}
use Rattle.go_inexact.proofs.Answered.{tells_as, untold}
use Rattle.go_inexact.proofs.Chained.{import_none, import_posts, no_import_here, posts_import}
use Rattle.go_inexact.specs.Chains.{IsImportedChain}
use Rattle.go_rules.specs.Expressions.{HasPosts}
use Rattle.go_type_terms.specs.Answers.{env_in}
use Rattle.go_inexact.proofs.chains.imported_chain.Goals as goal

pub returns-in-None : goal.returns-in-None
returns-in-None c = import_none (env_in c.args.context.now) c.args.operand.now c.args.posts.now (sym c.in-None.ensures.value)

pub returns-in-Ok : goal.returns-in-Ok
returns-in-Ok c =
    let E = env_in c.args.context.now in
    let e = c.args.operand.now in
    let ps = c.args.posts.now in
    let others = take (length ps - 1) (drop 1 ps) in
    tells_as (HasPosts E c.in-Ok.first others) (IsImportedChain E e ps) c.along.result (import_posts E e ps c.in-Some.post.now (sym c.in-Some.ensures.value) others c.in-Ok.first (behind_first ps) c.in-Ok.ensures)
    (posts_import E e ps c.in-Some.post.now (sym c.in-Some.ensures.value) others c.in-Ok.first (behind_first ps) c.in-Ok.ensures) c.along.ensures

pub returns-in-Err-Untyped : goal.returns-in-Err-Untyped
returns-in-Err-Untyped c =
    let E = env_in c.args.context.now in
    no_import_here E c.args.operand.now c.args.posts.now c.in-Some.post.now (sym c.in-Some.ensures.value)
    (untold (NamesImported E c.args.operand.now c.in-Some.post.now) c.in-Err-Untyped.field-0 c.in-Err-Untyped.field-0-is c.in-Err-Untyped.ensures)
