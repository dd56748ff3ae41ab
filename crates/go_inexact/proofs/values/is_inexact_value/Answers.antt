use Rattle.go_inexact.proofs.Answered.{untold}
use Rattle.go_inexact.proofs.ValuesDecided.{inexact_decides, no_inexact, not_plain}
use Rattle.go_rules.specs.Expressions.{Has}
use Rattle.go_type_terms.specs.Answers.{env_in}
use Rattle.go_inexact.proofs.values.is_inexact_value.Goals as goal

pub returns-in-Err-Untyped : goal.returns-in-Err-Untyped
returns-in-Err-Untyped c =
    let E = env_in c.args.context.now in
    let e = c.args.expr.now in
    no_inexact E e (untold (Has E e) c.in-Err-Untyped.field-0 c.in-Err-Untyped.field-0-is c.in-Err-Untyped.ensures)

pub returns-in-Some : goal.returns-in-Some
returns-in-Some c = inexact_decides (env_in c.args.context.now) c.args.expr.now c.in-Ok.operand c.in-Some.term.now c.is_inexact.result c.in-Ok.ensures c.in-Some.ensures c.is_inexact.ensures

pub returns : goal.returns
returns c = not_plain (env_in c.args.context.now) c.args.expr.now c.in-Ok.operand c.in-Ok.ensures c.in-None.ensures
