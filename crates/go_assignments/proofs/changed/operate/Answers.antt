use Rattle.go_operators.proofs.Answers.{decided_false, decided_true}
use Rattle.go_rules.specs.Asks.{HasOperand}
use Rattle.go_type_terms.specs.Answers.{env_in}
use Rattle.go_type_terms.proofs.Handed.{told_told}
use Rattle.go_assignments.specs.Simple.{MayOperate, OperatesOn}
use Rattle.go_assignments.proofs.Changes.{no_operation}
use Rattle.go_assignments.proofs.changed.operate.Goals as goal

pub returns-in_err-changed : goal.returns-in_err-changed
returns-in_err-changed c =
    let E = env_in c.args.context.now in
    told_told (HasOperand E c.args.side.now) (λ (u : Unit {0}). OperatesOn E c.args.op c.args.side.now c.args.value.now) c.in_err-changed.field-0.0 c.from_residual.result c.from_residual.ensures.1 c.in_err-changed.ensures (λ u h. (h.0, h.2))

pub returns-in_err-right : goal.returns-in_err-right
returns-in_err-right c =
    let E = env_in c.args.context.now in
    told_told (HasOperand E c.args.value.now) (λ (u : Unit {0}). OperatesOn E c.args.op c.args.side.now c.args.value.now) c.in_err-right.field-0.0 c.from_residual-in_err-right.result c.from_residual-in_err-right.ensures.1 c.in_err-right.ensures (λ u h. (h.1, h.3))

pub returns-then-not-branch : goal.returns-then-not-branch
returns-then-not-branch c =
    let E = env_in c.args.context.now in
    λ u. no_operation E c.args.op c.in_ok-changed.ensures c.in_ok-right.ensures (decided_false (MayOperate E c.args.op c.in_ok-changed.changed c.in_ok-right.right) _ c.if-not-branch.true c.in_ok-may_operate.ensures)

pub returns : goal.returns
returns c =
    let E = env_in c.args.context.now in (
      c.in_ok-changed.changed,
      c.in_ok-right.right,
      c.in_ok-changed.ensures,
      c.in_ok-right.ensures,
      decided_true (MayOperate E c.args.op c.in_ok-changed.changed c.in_ok-right.right) _ c.if-not-branch.false c.in_ok-may_operate.ensures,
    )
