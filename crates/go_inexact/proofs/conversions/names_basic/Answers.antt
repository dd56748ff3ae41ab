use Rattle.go_inexact.proofs.Answered.{untold}
use Rattle.go_inexact.proofs.BasicNames.{names_decides, names_no_type, names_untyped}
use Rattle.go_inexact.specs.Chains.{IsChain}
use Rattle.go_type_terms.specs.Answers.{env_in}
use Rattle.go_inexact.proofs.conversions.names_basic.Goals as goal

pub returns-in-Some : goal.returns-in-Some
returns-in-Some c =
    names_decides (env_in c.args.context.now) c.args.operand.now c.args.posts.now c.in-Ok.found c.in-Ok.ensures c.in-Some.term.now c.in-Some.ensures c.basic_under.result c.is_some.result c.basic_under.ensures c.is_some.ensures

pub returns-in-Ok : goal.returns-in-Ok
returns-in-Ok c = names_no_type (env_in c.args.context.now) c.args.operand.now c.args.posts.now c.in-Ok.found c.in-Ok.ensures c.in-None.ensures

pub returns-in-Err-Untyped : goal.returns-in-Err-Untyped
returns-in-Err-Untyped c =
    let E = env_in c.args.context.now in
    let e = c.args.operand.now in
    let ps = c.args.posts.now in
    names_untyped E e ps (untold (IsChain E e ps) c.in-Err-Untyped.field-0 c.in-Err-Untyped.field-0-is c.in-Err-Untyped.ensures)
