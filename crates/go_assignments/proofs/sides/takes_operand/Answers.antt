use Rattle.go_asks.proofs.EmbeddedTypes.{none_told}
use Rattle.go_rules.specs.Expressions.{Has}
use Rattle.go_type_terms.specs.Answers.{env_in}
use Rattle.go_assignments.proofs.Decided.{decided_as}
use Rattle.go_assignments.proofs.SideValues.{given_by}
use Rattle.go_assignments.specs.inner.Sides.{IsGiven, TakesOperand}
use Rattle.go_assignments.proofs.sides.takes_operand.Goals as goal

pub returns-in-Ok : goal.returns-in-Ok
returns-in-Ok c =
    let E = env_in c.args.context.now in
    let e = c.args.side.now in
    let o = c.args.value.now in
    let l = c.in-Ok.operand in
    decided_as (IsGiven E l o) (TakesOperand E e o) c.is_given.result (λ g. (l, c.in-Ok.ensures, g)) (given_by E c.in-Ok.ensures) c.is_given.ensures

pub returns-in-Err-Untyped : goal.returns-in-Err-Untyped
returns-in-Err-Untyped c =
    let none = none_told (Has (env_in c.args.context.now) c.args.side.now) c.in-Err-Untyped.field-0 c.in-Err-Untyped.field-0-is c.in-Err-Untyped.ensures in
    λ h. none h.0 h.1
