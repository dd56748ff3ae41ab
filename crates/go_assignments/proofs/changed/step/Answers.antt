use Rattle.go_operators.proofs.Answers.{decided_false, decided_true}
use Rattle.go_rules.specs.Asks.{HasOperand}
use Rattle.go_type_terms.specs.Answers.{env_in}
use Rattle.go_type_terms.proofs.Handed.{told_told}
use Rattle.go_assignments.specs.Simple.{MayStep, Steps}
use Rattle.go_assignments.proofs.Changes.{no_step}
use Rattle.go_assignments.proofs.changed.step.Goals as goal

pub returns-in_err-changed : goal.returns-in_err-changed
returns-in_err-changed c =
    let E = env_in c.args.context.now in
    told_told (HasOperand E c.args.side.now) (λ (u : Unit {0}). Steps E c.args.op c.args.side.now) c.in_err-changed.field-0.0 c.from_residual.result c.from_residual.ensures.1 c.in_err-changed.ensures (λ u h. (h.0, h.1))

pub returns-then-not-branch : goal.returns-then-not-branch
returns-then-not-branch c =
    let E = env_in c.args.context.now in
    λ u. no_step E c.args.op c.in_ok-changed.ensures (decided_false (MayStep E c.args.op c.in_ok-changed.changed) _ c.if-not-branch.true c.in_ok-may_step.ensures)

pub returns : goal.returns
returns c =
    let E = env_in c.args.context.now in
    (c.in_ok-changed.changed, c.in_ok-changed.ensures, decided_true (MayStep E c.args.op c.in_ok-changed.changed) _ c.if-not-branch.false c.in_ok-may_step.ensures)
