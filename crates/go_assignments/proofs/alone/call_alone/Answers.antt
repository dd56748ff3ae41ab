use Rattle.go_rules.specs.Asks.{HasOperand}
use Rattle.go_type_terms.specs.Answers.{env_in}
use Rattle.go_type_terms.proofs.Handed.{told_told}
use Rattle.go_assignments.specs.Simple.{CallsAlone}
use Rattle.go_assignments.proofs.Calls.{call_typed, call_untyped}
use Rattle.go_assignments.proofs.alone.call_alone.Goals as goal

pub returns-in_err-_whole : goal.returns-in_err-_whole
returns-in_err-_whole c =
    let E = env_in c.args.context.now in
    told_told (HasOperand E c.args.expr.now) (λ (u : Unit {0}). CallsAlone E c.args.expr.now) c.in_err-_whole.field-0.0 c.from_residual.result c.from_residual.ensures.1 c.in_err-_whole.ensures (λ u h. (h.0, h.1))

pub returns-then-not-branch : goal.returns-then-not-branch
returns-then-not-branch c = λ u. call_untyped (env_in c.args.context.now) c.args.expr.now c.in_ok-calls_along.field-0 c.if-not-branch.true c.in_ok-calls_along.ensures

pub returns : goal.returns
returns c = call_typed (env_in c.args.context.now) c.args.expr.now c.in_ok-_whole._whole c.in_ok-_whole.ensures c.in_ok-calls_along.field-0 c.if-not-branch.false c.in_ok-calls_along.ensures
