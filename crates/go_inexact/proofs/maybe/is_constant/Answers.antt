use Rattle.go_inexact.proofs.Answered.{untold}
use Rattle.go_inexact.proofs.Following.{constant_decides, untyped_constant}
use Rattle.go_rules.specs.Expressions.{Has}
use Rattle.go_type_terms.specs.Answers.{env_in}
use Rattle.go_inexact.proofs.maybe.is_constant.Goals as goal

pub returns-in-Ok : goal.returns-in-Ok
returns-in-Ok c = constant_decides (env_in c.args.context.now) c.args.expr.now c.in-Ok.operand c.constant_of.result c.is_some.result c.in-Ok.ensures c.constant_of.ensures c.is_some.ensures

pub returns-in-Err-Untyped : goal.returns-in-Err-Untyped
returns-in-Err-Untyped c =
    let E = env_in c.args.context.now in
    let e = c.args.expr.now in
    untyped_constant E e (untold (Has E e) c.in-Err-Untyped.field-0 c.in-Err-Untyped.field-0-is c.in-Err-Untyped.ensures)
