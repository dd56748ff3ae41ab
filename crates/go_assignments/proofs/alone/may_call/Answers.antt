use Rattle.go_asks.proofs.EmbeddedTypes.{none_told}
use Rattle.go_type_terms.specs.Answers.{env_in}
use Rattle.go_assignments.specs.inner.Calls.{IsAlong}
use Rattle.go_assignments.proofs.Calls.{called_decided}
use Rattle.go_assignments.proofs.alone.may_call.Goals as goal

pub returns-in-Ok : goal.returns-in-Ok
returns-in-Ok c = called_decided (env_in c.args.context.now) c.args.expr.now c.args.posts.now c.in-Ok.operand c.in-Ok.ensures c.may_be_called_alone.result c.may_be_called_alone.ensures

pub returns-in-Err-Untyped : goal.returns-in-Err-Untyped
returns-in-Err-Untyped c =
    let none = none_told (IsAlong (env_in c.args.context.now) c.args.expr.now c.args.posts.now) c.in-Err-Untyped.field-0 c.in-Err-Untyped.field-0-is c.in-Err-Untyped.ensures in
    λ h. none h.0 h.1
