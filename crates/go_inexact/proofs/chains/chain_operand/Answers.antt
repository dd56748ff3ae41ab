use Rattle.go_inexact.proofs.Answered.{tells_as, untold}
use Rattle.go_inexact.proofs.Chained.{chain_import, chain_posts, import_chain, posts_chain}
use Rattle.go_inexact.specs.Chains.{IsChain, IsImportedChain}
use Rattle.go_rules.specs.Expressions.{Has, HasPosts}
use Rattle.go_type_terms.specs.Answers.{env_in}
use Rattle.go_inexact.proofs.chains.chain_operand.Goals as goal

pub returns-in-Ok : goal.returns-in-Ok
returns-in-Ok c =
    let E = env_in c.args.context.now in
    let e = c.args.operand.now in
    let ps = c.args.posts.now in
    tells_as (HasPosts E c.in-Ok.first ps) (IsChain E e ps) c.along.result (posts_chain E e c.in-Ok.first c.in-Ok.ensures ps) (chain_posts E e c.in-Ok.first c.in-Ok.ensures ps) c.along.ensures

pub returns-in-Err-Untyped : goal.returns-in-Err-Untyped
returns-in-Err-Untyped c =
    let E = env_in c.args.context.now in
    let e = c.args.operand.now in
    let ps = c.args.posts.now in
    let none = untold (Has E e) c.in-Err-Untyped.field-0 c.in-Err-Untyped.field-0-is c.in-Err-Untyped.ensures in
    tells_as (IsImportedChain E e ps) (IsChain E e ps) c.imported_chain.result (import_chain E e none ps) (chain_import E e none ps) c.imported_chain.ensures
