use Rattle.std.proofs.lemmas.Result.{IfOk-weaker}
use Rattle.go_exposed.specs.BeyondProfile.{IsValueOf, MayBeConstant}
use Rattle.go_inexact.proofs.Answered.{is_not, is_so, untold}
use Rattle.go_inexact.proofs.ValuesDecided.{no_value_of, not_usable, value_of_decides}
use Rattle.go_rules.specs.Expressions.{Has}
use Rattle.go_rules.specs.Usability.{UsableAs}
use Rattle.go_selectors.specs.Answers.{Decides}
use Rattle.go_type_terms.specs.Answers.{env_in}
use Rattle.go_inexact.proofs.values.is_value_of.Goals as goal

pub returns-in-Err-Untyped : goal.returns-in-Err-Untyped
returns-in-Err-Untyped c =
    let E = env_in c.args.context.now in
    let e = c.args.expr.now in
    no_value_of E e c.args.term.now (untold (Has E e) c.in-Err-Untyped.field-0 c.in-Err-Untyped.field-0-is c.in-Err-Untyped.ensures)

pub returns-then-not-fits : goal.returns-then-not-fits
returns-then-not-fits c =
    let E = env_in c.args.context.now in
    not_usable E c.args.expr.now c.args.term.now c.in-Ok.operand c.in-Ok.ensures (is_not (UsableAs E c.in-Ok.operand c.args.term.now) c.in_ok-fits-in-Ok.fits c.if-not-fits.true c.in_ok-fits-in-Ok.ensures)

pub returns-else-not-fits : goal.returns-else-not-fits
returns-else-not-fits c =
    let E = env_in c.args.context.now in
    let e = c.args.expr.now in
    let t = c.args.term.now in
    let o = c.in-Ok.operand in
    let fits = is_so (UsableAs E o t) c.in_ok-fits-in-Ok.fits c.if-not-fits.false c.in_ok-fits-in-Ok.ensures in
    IfOk-weaker c.may_be_constant.result (λ b. Decides b (MayBeConstant E e)) (λ b. Decides b (IsValueOf E t e)) (λ b d. value_of_decides E e t o b c.in-Ok.ensures fits d) c.may_be_constant.ensures
