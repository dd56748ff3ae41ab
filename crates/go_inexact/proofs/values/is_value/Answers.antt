use Rattle.std.proofs.lemmas.Result.{IfOk-weaker}
use Rattle.go_exposed.specs.BeyondProfile.{IsValue, MayBeConstant}
use Rattle.go_inexact.proofs.Answered.{untold}
use Rattle.go_inexact.proofs.ValuesDecided.{no_value, value_decides}
use Rattle.go_rules.specs.Expressions.{Has}
use Rattle.go_selectors.specs.Answers.{Decides}
use Rattle.go_type_terms.specs.Answers.{env_in}
use Rattle.go_inexact.proofs.values.is_value.Goals as goal

pub returns-in-Err-Untyped : goal.returns-in-Err-Untyped
returns-in-Err-Untyped c =
    let E = env_in c.args.context.now in
    let e = c.args.expr.now in
    no_value E e (untold (Has E e) c.in-Err-Untyped.field-0 c.in-Err-Untyped.field-0-is c.in-Err-Untyped.ensures)

pub returns-in-Ok : goal.returns-in-Ok
returns-in-Ok c =
    let E = env_in c.args.context.now in
    let e = c.args.expr.now in
    IfOk-weaker c.may_be_constant.result (λ b. Decides b (MayBeConstant E e)) (λ b. Decides b (IsValue E e)) (λ b d. value_decides E e c.in-Ok._operand b c.in-Ok.ensures d) c.may_be_constant.ensures
