use Rattle.go_operators.proofs.Answers.{decided_false, decided_true}
use Rattle.go_rules.specs.Asks.{HasOperand}
use Rattle.go_type_terms.specs.Answers.{env_in}
use Rattle.go_type_terms.proofs.Handed.{told_told}
use Rattle.go_assignments.specs.Simple.{MaySend, Sends}
use Rattle.go_assignments.proofs.Changes.{no_send}
use Rattle.go_assignments.proofs.sent.send.Goals as goal

pub returns-in_err-to : goal.returns-in_err-to
returns-in_err-to c =
    let E = env_in c.args.context.now in
    told_told (HasOperand E c.args.channel.now) (λ (u : Unit {0}). Sends E c.args.channel.now c.args.value.now) c.in_err-to.field-0.0 c.from_residual.result c.from_residual.ensures.1 c.in_err-to.ensures (λ u h. (h.0, h.2))

pub returns-in_err-sent : goal.returns-in_err-sent
returns-in_err-sent c =
    let E = env_in c.args.context.now in
    told_told (HasOperand E c.args.value.now) (λ (u : Unit {0}). Sends E c.args.channel.now c.args.value.now) c.in_err-sent.field-0.0 c.from_residual-in_err-sent.result c.from_residual-in_err-sent.ensures.1 c.in_err-sent.ensures (λ u h. (h.1, h.3))

pub returns-then-not-branch : goal.returns-then-not-branch
returns-then-not-branch c =
    let E = env_in c.args.context.now in
    λ u. no_send E c.in_ok-to.ensures c.in_ok-sent.ensures (decided_false (MaySend E c.in_ok-to.to c.in_ok-sent.sent) _ c.if-not-branch.true c.in_ok-may_send.ensures)

pub returns : goal.returns
returns c =
    let E = env_in c.args.context.now in
    (c.in_ok-to.to, c.in_ok-sent.sent, c.in_ok-to.ensures, c.in_ok-sent.ensures, decided_true (MaySend E c.in_ok-to.to c.in_ok-sent.sent) _ c.if-not-branch.false c.in_ok-may_send.ensures)
