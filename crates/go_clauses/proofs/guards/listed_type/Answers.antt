use Rattle.go_operators.proofs.Answers.{decided_false, decided_true}
use Rattle.go_rules.specs.Asks.{IsType}
use Rattle.go_rules.specs.Expressions.{MayHold}
use Rattle.go_type_terms.specs.Answers.{env_in}
use Rattle.go_type_terms.proofs.Handed.{told_told}
use Rattle.go_clauses.specs.inner.Guards.{ListsType}
use Rattle.go_clauses.proofs.Guarding.{no_list}
use Rattle.go_clauses.proofs.guards.listed_type.Goals as goal

pub returns-in_err-term : goal.returns-in_err-term
returns-in_err-term c =
    let E = env_in c.args.context.now in
    told_told (IsType E c.args.form.now) (ListsType E c.args.interface.now c.args.form.now) c.in_err-term.field-0.0 c.from_residual.result c.from_residual.ensures.1 c.in_err-term.ensures (λ u h. (u, h.0))

pub returns-then-not-branch : goal.returns-then-not-branch
returns-then-not-branch c =
    let E = env_in c.args.context.now in
    no_list E c.args.interface.now c.in_ok-term.ensures (decided_false (MayHold E c.args.interface.now c.in_ok-term.term) _ c.if-not-branch.true c.in_ok-may_hold.ensures)

pub returns : goal.returns
returns c = (c.in_ok-term.ensures, decided_true (MayHold (env_in c.args.context.now) c.args.interface.now c.in_ok-term.term) _ c.if-not-branch.false c.in_ok-may_hold.ensures)
